use Rattle.std.proofs.Common.{◌≡◌, ℕ, ◌+◌, get_or, drop, refl, sym, ap, ◌∙◌, subst, subst₂, arith}
use Rattle.geometry.specs.declared.Rect.{Rect}
use Rattle.geometry.specs.Boxes.{blank}
use Rattle.region.specs.Reader.{Slab, leading}
use Rattle.region.specs.Words.{rects}
use Rattle.region.proofs.Wording.{length-rects}
use Rattle.region.proofs.Reading.{slab-end, slab-gap, slab-band}
use Rattle.region.proofs.band_at.Goals as goal

pub returns-then-p-a : goal.returns-then-p-a
returns-then-p-a c =
    record {
      from = refl;
      slab = slab-end (rects c.args.a.now) c.args.p c.args.y c.requires (omega (arith, length-rects c.args.a.now));
      within = omega (arith, c.requires.within, length-rects c.args.a.now);
    }

pub returns-then-y-first : goal.returns-then-y-first
returns-then-y-first c =
    let e : c.rect_at-first.result.top ≡ (get_or (rects c.args.a.now) c.args.p blank).top = ap (λ (r : Rect). r.top) c.rect_at-first.ensures in
    record {
      from = refl;
      slab =
          subst (λ (z : ℕ). Slab (rects c.args.a.now) c.args.p c.args.y c.args.p z) (sym e)
          (slab-gap (rects c.args.a.now) c.args.p c.args.y c.requires (omega (arith, length-rects c.args.a.now)) (omega (arith, e)));
      within = omega arith;
    }

pub returns : goal.returns
returns c =
    let e : c.rect_at-first.result.top ≡ (get_or (rects c.args.a.now) c.args.p blank).top = ap (λ (r : Rect). r.top) c.rect_at-first.ensures in
    let f : c.rect_at-first.result.below ≡ (get_or (rects c.args.a.now) c.args.p blank).below = ap (λ (r : Rect). r.below) c.rect_at-first.ensures in
    let g : c.band_end.result ≡ c.args.p + leading (get_or (rects c.args.a.now) c.args.p blank).top (drop c.args.p (rects c.args.a.now)) =
    c.band_end.ensures ∙ ap (λ (z : ℕ). c.args.p + leading z (drop c.args.p (rects c.args.a.now))) e in
    let s : Slab (rects c.args.a.now) c.args.p c.args.y c.band_end.result c.rect_at-first.result.below =
    subst₂ (λ (u v : ℕ). Slab (rects c.args.a.now) c.args.p c.args.y u v) (sym g) (sym f)
    (slab-band (rects c.args.a.now) c.args.p c.args.y c.requires (omega (arith, length-rects c.args.a.now)) (omega (arith, e, c.if-y-first.false))) in
    record { from = refl; slab = s; within = omega (arith, s.last, length-rects c.args.a.now) }
