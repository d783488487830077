use Rattle.std.proofs.Common.{◌≡◌, ℕ, ◌+◌, ◌-◌, ◌*◌, ◌/◌, ◌<◌, ◌≤◌, ◌==◌, cond, min, List, [], ◌++◌, length, take, drop, sym, refl, ap, ◌∙◌, subst, ap₂, arith, length-drop, length-take}
use mathlib.Core.Path.{subst₃}
use borrow.Rule.Slice.PartMut.{put_mid, post_of, same_len_mid}
use Rattle.geometry.specs.declared.Rect.{Rect}
use Rattle.region.specs.Edges.{Between}
use Rattle.region.specs.Bands.{same_edges}
use Rattle.region.specs.Boxes.{act, none, edges, across, Rows}
use Rattle.region.specs.Reader.{Slab, Rest, stretched}
use Rattle.region.specs.Lines.{Roomy}
use Rattle.region.specs.Words.{rects}
use Rattle.region.proofs.Wording.{length-rects, rects-part, rects-mid, rects-tail, makes}
use Rattle.region.proofs.Building.{Built, built-start, built-done, Made, added, merged, rest-on, to_low}
use Rattle.region.proofs.Pairs.{act-none}
use Rattle.region.proofs.Rooming.{room}
use Rattle.region.proofs.sweep.Goals as goal
use Rattle.region.proofs.sweep.Goals.{then-same_row, else-same_row}

pub bands-init : goal.bands-init
bands-init c = (built-start (act c.args.op) (rects c.args.a.now) (rects c.args.b.now) (rects c.args.out.now) c.requires.left c.requires.right, refl, omega arith, omega arith)

pub returns-then-to : goal.returns-then-to
returns-then-to c =
    let ea : c.band_at-u.result.below ≡ none = omega arith in
    let eb : c.band_at-v.result.below ≡ none = omega arith in
    makes c.args.op (rects c.args.a.now) (rects c.args.b.now) c.bands.out c.bands.n
    (built-done c.args.op (rects c.args.a.now) (rects c.args.b.now) (rects c.bands.out) c.bands.p c.bands.q c.bands.y c.bands.m c.bands.n c.band_at-u.result.end c.band_at-v.result.end (act-none c.args.op)
    c.bands.invariant.0
    (subst (λ n. Slab (rects c.args.a.now) c.bands.p c.bands.y c.band_at-u.result.end n) ea c.band_at-u.ensures.slab)
    (subst (λ n. Slab (rects c.args.b.now) c.bands.q c.bands.y c.band_at-v.result.end n) eb c.band_at-v.ensures.slab))

pub returns-then-out-n : goal.returns-then-out-n
returns-then-out-n c = λ r.
    let len : length c.args.out.now / 2 ≡ length (rects c.bands.out) = omega (arith, length-rects c.bands.out, c.bands.invariant.1) in
    let r' : Roomy (rects c.args.a.now) (rects c.args.b.now) (length (rects c.bands.out)) = subst (λ (z : ℕ). Roomy (rects c.args.a.now) (rects c.args.b.now) z) len r in
    omega (
      arith,
      c.if-out-n.true,
      length-rects c.bands.out,
      room (act c.args.op) _ _ _ _ _ _ _ _ _ _ _ _ (act-none c.args.op) c.bands.invariant.0 c.band_at-u.ensures.slab c.band_at-v.ensures.slab r',
    )

pub combine_row-k-requires : goal.combine_row-k-requires
combine_row-k-requires c =
    let out : List ℕ = c.bands.out in
    let n : ℕ = c.bands.n in
    record {
      left = subst (λ (z : List Rect). Between 0 (edges z) 4097) (sym (c.words.ensures.boxes ∙ ap (λ (z : ℕ). take (c.band_at-u.result.end - z) (drop z (rects c.args.a.now))) c.band_at-u.ensures.from)) c.band_at-u.ensures.slab.row;
      right = subst (λ (z : List Rect). Between 0 (edges z) 4097) (sym (c.words-in-bands.ensures.boxes ∙ ap (λ (z : ℕ). take (c.band_at-v.result.end - z) (drop z (rects c.args.b.now))) c.band_at-v.ensures.from)) c.band_at-v.ensures.slab.row;
      room =
          omega (
            arith,
            c.words.ensures.long,
            c.words-in-bands.ensures.long,
            c.if-out-n.false,
            length-rects (take (length out - 2 * n) (drop (2 * n) out)),
            length-take (length out - 2 * n) (drop (2 * n) out),
            length-drop (2 * n) out,
          );
    }

pub bands-preserved : goal.bands-preserved
bands-preserved c =
    let m : ℕ = c.bands.m in
    let n : ℕ = c.bands.n in
    let k : ℕ = c.combine_row-k.result in
    let to : ℕ = c.min-to.result in
    let a : List Rect = rects c.args.a.now in
    let b : List Rect = rects c.args.b.now in
    let out : List ℕ = c.bands.out in
    let ys : List ℕ = c.combine_row-k.new.out in
    let words₁ : List ℕ = put_mid (2 * n) (length out - 2 * n) out ys in
    let out₁ : List Rect = take n (rects out) ++ (rects ys ++ []) in
    let e₁ : rects words₁ ≡ out₁ = rects-tail n out ys c.bands.invariant.3 in
    let R : List Rect = take k (rects ys) in
    let eA : rects c.words.result.now ≡ take (c.band_at-u.result.end - c.bands.p) (drop c.bands.p a) =
    c.words.ensures.boxes ∙ ap (λ (z : ℕ). take (c.band_at-u.result.end - z) (drop z a)) c.band_at-u.ensures.from in
    let eB : rects c.words-in-bands.result.now ≡ take (c.band_at-v.result.end - c.bands.q) (drop c.bands.q b) =
    c.words-in-bands.ensures.boxes ∙ ap (λ (z : ℕ). take (c.band_at-v.result.end - z) (drop z b)) c.band_at-v.ensures.from in
    let rows : Rows c.bands.y to R = c.combine_row-k.ensures.rows in
    let rises : Between 0 (edges R) 4097 = c.combine_row-k.ensures.canonical in
    let dots : (i : ℕ) → across R i ≡ act c.args.op (across (take (c.band_at-u.result.end - c.bands.p) (drop c.bands.p a)) i) (across (take (c.band_at-v.result.end - c.bands.q) (drop c.bands.q b)) i) =
    λ i. c.combine_row-k.ensures.dots i ∙ ap₂ (λ (u v : List Rect). act c.args.op (across u i) (across v i)) eA eB in
    let same : c.same_row.result ≡ same_edges (edges (take (n - m) (drop m out₁))) (edges (take (n + k - n) (drop n out₁))) =
    c.same_row.ensures
    ∙ ap₂ (λ (u v : List Rect). same_edges (edges u) (edges v)) (rects-part m n words₁ ∙ ap (λ (z : List Rect). take (n - m) (drop m z)) e₁) (rects-part n (n + k) words₁ ∙ ap (λ (z : List Rect). take (n + k - n) (drop n z)) e₁) in
    let P : List Rect → ℕ → ℕ → Type 0 = λ o u v. Built (act c.args.op) a b o c.onward-p.result c.onward-q.result to u v in
    let ylen : length ys ≡ length (take (length out - 2 * n) (drop (2 * n) out)) = c.combine_row-k.auto.out in
    let ysize : length ys ≡ length out - 2 * n = omega (arith, ylen, length-take (length out - 2 * n) (drop (2 * n) out), length-drop (2 * n) out) in
    let fits : 2 * (n + k) ≤ length out =
    omega arith in
    let long : k ≤ length (rects ys) = omega (arith, ysize, fits, length-rects ys) in
    let whole : length words₁ ≡ length out = same_len_mid (2 * n) (length out - 2 * n) out ys ylen in
    let eto : to ≡ min c.band_at-u.result.below c.band_at-v.result.below = c.min-to.ensures in
    let sa : Slab a c.bands.p c.bands.y c.band_at-u.result.end c.band_at-u.result.below = c.band_at-u.ensures.slab in
    let sb : Slab b c.bands.q c.bands.y c.band_at-v.result.end c.band_at-v.result.below = c.band_at-v.ensures.slab in
    let lt : to < none = omega (arith, c.min-to.type_inv, c.if-to.false) in
    let low : to ≤ 4096 = to_low _ _ _ eto sa.low sb.low lt in
    let on : c.bands.y < to = omega (arith, eto, sa.later, sb.later) in
    let ra : Rest a c.onward-p.result to = rest-on _ _ _ _ _ _ _ sa on (omega (arith, eto)) lt low (c.onward-p.ensures ∙ ap (λ (z : ℕ). cond (c.band_at-u.result.below == to) c.band_at-u.result.end z) c.band_at-u.ensures.from) in
    let rb : Rest b c.onward-q.result to = rest-on _ _ _ _ _ _ _ sb on (omega (arith, eto)) lt low (c.onward-q.ensures ∙ ap (λ (z : ℕ). cond (c.band_at-v.result.below == to) c.band_at-v.result.end z) c.band_at-v.ensures.from) in
    let d : Made (act c.args.op) a b R c.bands.y to =
    record { rows = rows; rises = rises; dots = λ i j l h. dots i ∙ sym (ap₂ (act c.args.op) (sa.dots i j l (omega (arith, eto, h))) (sb.dots i j l (omega (arith, eto, h)))) } in
    let built : P (rects c.if-same_row.out) c.if-same_row.m c.if-same_row.n =
    elim c.if-same_row.branch [
      | then-same_row w ↦
          (let zs : List ℕ = w.stretch.new.s in
          let zlen : length zs ≡ length (take (2 * n - 2 * m) (drop (2 * m) words₁)) = w.stretch.auto.s in
          let zsize : length zs ≡ 2 * n - 2 * m = omega (arith, zlen, whole, c.bands.invariant.2, c.bands.invariant.3, length-take (2 * n - 2 * m) (drop (2 * m) words₁), length-drop (2 * m) words₁) in
          let g : rects c.if-same_row.out ≡ take m out₁ ++ (rects zs ++ rects (post_of (2 * m) (2 * n - 2 * m) words₁)) =
          ap rects w.out-is ∙ (rects-mid m n words₁ zs c.bands.invariant.2 (omega (arith, whole, c.bands.invariant.2, c.bands.invariant.3)) zsize ∙ ap (λ (z : List Rect). take m z ++ (rects zs ++ rects (post_of (2 * m) (2 * n - 2 * m) words₁))) e₁) in
          let st : rects zs ≡ stretched to (take (n - m) (drop m out₁)) = w.stretch.ensures ∙ ap (stretched to) (rects-part m n words₁ ∙ ap (λ (z : List Rect). take (n - m) (drop m z)) e₁) in
          subst₃ P (sym g) (sym w.m-is) (sym w.n-is)
          (merged _ _ _ (rects out) (rects ys) [] _ _ _ _ _ _ _ _ k c.bands.invariant.0 d ra rb on low long (rects zs) (rects (post_of (2 * m) (2 * n - 2 * m) words₁)) (sym same ∙ w.if-same_row.true) st))
      | else-same_row w ↦
          (let g : rects c.if-same_row.out ≡ out₁ = ap rects w.out-is ∙ e₁ in
          subst₃ P (sym g) (sym w.m-is) (sym w.n-is)
          (added _ _ _ (rects out) (rects ys) [] _ _ _ _ _ _ _ _ k c.bands.invariant.0 d ra rb on low long (sym same ∙ w.if-same_row.false)))
    ] in
    let kept : length c.if-same_row.out ≡ length words₁ = c.if-same_row.auto.out in
    (built, kept ∙ (whole ∙ c.bands.invariant.1), built.order, omega (arith, built.within, length-rects c.if-same_row.out))
