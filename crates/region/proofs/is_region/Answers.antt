use Rattle.std.proofs.Common.{◌≡◌, ℕ, ◌+◌, ◌-◌, ◌*◌, ◌≤◌, List, length, take, drop, sym, ◌∙◌, ap₂, arith, rules}
use Rattle.std.proofs.lemmas.List.{length-drop}
use Rattle.std.proofs.lemmas.Bool.{false≢true}
use Rattle.geometry.specs.declared.Rect.{Rect}
use Rattle.region.specs.Reader.{leading}
use Rattle.region.specs.Checks.{follows_on}
use Rattle.region.specs.Words.{rects}
use Rattle.region.proofs.Wording.{length-rects, rects-part}
use Rattle.region.proofs.Testing.{tested-start, tested-step, tested-stop, tested-end, band-on}
use Rattle.region.proofs.Walks.{leading-short}
use Rattle.region.proofs.is_region.Goals as goal

pub bands-init : goal.bands-init
bands-init c = (tested-start (rects c.args.a.now), omega arith, omega arith)

-- the band ends within the words
ends : (a : List ℕ) (p e t : ℕ) → e ≡ p + leading t (drop p (rects a)) → 2 * p ≤ length a → 2 * e ≤ length a
ends a p e t q h = omega (arith, leading-short t (drop p (rects a)), length-drop p (rects a), length-rects a)

pub overflow_mul-end : goal.overflow_mul-end
overflow_mul-end c =
    let h = ends c.args.a.now c.bands.p c.band_end-end.result c.rect_at-first.result.top c.band_end-end.ensures c.bands.invariant.2 in
    search rules

pub slice_bounds-follows-end-in-bands : goal.slice_bounds-follows-end-in-bands
slice_bounds-follows-end-in-bands c =
    let h = ends c.args.a.now c.bands.p c.band_end-end.result c.rect_at-first.result.top c.band_end-end.ensures c.bands.invariant.2 in
    search rules

-- the test, on boxes
on-boxes : (a : List ℕ) (m p e y : ℕ) (f : Rect) →
    follows_on (rects (take (2 * p - 2 * m) (drop (2 * m) a))) y (rects (take (2 * e - 2 * p) (drop (2 * p) a))) f ≡ follows_on (take (p - m) (drop m (rects a))) y (take (e - p) (drop p (rects a))) f
on-boxes a m p e y f = ap₂ (λ (u v : List Rect). follows_on u y v f) (rects-part m p a) (rects-part p e a)

pub returns-then-not-follows : goal.returns-then-not-follows
returns-then-not-follows c = (
  (λ e. absurd (false≢true e)),
  (λ k.
      absurd (tested-stop (rects c.args.a.now) c.bands.m c.bands.p c.bands.y c.band_end-end.result c.rect_at-first.result c.bands.invariant.0 (omega (arith, length-rects c.args.a.now)) c.rect_at-first.ensures
      c.band_end-end.ensures (sym (on-boxes c.args.a.now c.bands.m c.bands.p c.band_end-end.result c.bands.y c.rect_at-first.result) ∙ (sym c.follows.ensures ∙ c.if-not-follows.true)) k)),
)

pub bands-smaller : goal.bands-smaller
bands-smaller c =
    let h = ends c.args.a.now c.bands.p c.band_end-end.result c.rect_at-first.result.top c.band_end-end.ensures c.bands.invariant.2 in
    omega (
      arith,
      band-on (rects c.args.a.now) c.bands.m c.bands.p c.bands.y c.band_end-end.result c.rect_at-first.result c.bands.invariant.0 (omega (arith, length-rects c.args.a.now)) c.rect_at-first.ensures c.band_end-end.ensures,
    )

pub bands-preserved : goal.bands-preserved
bands-preserved c =
    let h = ends c.args.a.now c.bands.p c.band_end-end.result c.rect_at-first.result.top c.band_end-end.ensures c.bands.invariant.2 in
    let t =
    tested-step (rects c.args.a.now) c.bands.m c.bands.p c.bands.y c.band_end-end.result c.rect_at-first.result c.bands.invariant.0 (omega (arith, length-rects c.args.a.now)) c.rect_at-first.ensures
    c.band_end-end.ensures (sym (on-boxes c.args.a.now c.bands.m c.bands.p c.band_end-end.result c.bands.y c.rect_at-first.result) ∙ (sym c.follows.ensures ∙ c.if-not-follows.false)) in
    (t, t.order, h)

pub returns : goal.returns
returns c = (
  (λ e. tested-end (rects c.args.a.now) c.bands.m c.bands.p c.bands.y c.bands.invariant.0 (omega (arith, length-rects c.args.a.now))),
  (λ k. search rules),
)
