use Rattle.std.proofs.Common.{◌≡◌, ℕ, ◌+◌, ◌*◌, ◌/◌, ◌<◌, ◌≤◌, min, false, List, length, get_or, take, drop, sym, refl, ap, ◌∙◌, subst, ap₂, arith, length-set}
use Rattle.geometry.specs.declared.Rect.{Rect}
use Rattle.region.specs.declared.Op.{Op}
use Rattle.region.specs.declared.Op.TheVariants.{Join, Meet, Cut}
use Rattle.region.specs.Edges.{Between, inside}
use Rattle.region.specs.Boxes.{edges, act, Rows, placed, across, none}
use Rattle.region.specs.Words.{rects}
use Rattle.region.proofs.Wording.{length-rects}
use Rattle.region.proofs.Sweeping.{At, Turn, turn, at-start, at-keep, at-write, at_done, Done, count, differ, agree}
use Rattle.region.proofs.Pairs.{length-edges, edges_placed, rows-placed, rest-placed, odd-edges, across-inside, edges-take}
use Rattle.region.proofs.combine_row.Goals as goal

empty : (o : Op) → act o false false ≡ false
empty Join = refl
empty Meet = refl
empty Cut = refl

pub sweep-init : goal.sweep-init
sweep-init c = (at-start (act c.args.op) (edges (rects c.args.a.now)) (edges (rects c.args.b.now)) (edges (rects c.args.out.now)) (empty c.args.op), tt, refl)

-- at the end of the loop
finish : (o : Op) (a b out start : List Rect) (n t l : ℕ) → Between 0 (edges a) 4097 → Between 0 (edges b) 4097 → Done (act o) (edges a) (edges b) (edges out) n → Rows t l (take ((n + 1) / 2) out) →
    drop ((n + 1) / 2) out ≡ drop ((n + 1) / 2) start →
    record {
      few : n / 2 ≤ length a + length b;
      canonical : Between 0 (edges (take (n / 2) out)) 4097;
      dots : (i : ℕ) → across (take (n / 2) out) i ≡ act o (across a i) (across b i);
      rows : Rows t l (take (n / 2) out);
      rest : drop (n / 2) out ≡ drop (n / 2) start;
    }
finish o a b out start n t l ha hb d r s =
    record {
      few = omega (arith, d.few, length-edges a, length-edges b);
      canonical = up;
      dots = λ i. across-inside 0 (take (n / 2) out) 4097 i up ∙ (ap (λ z. inside z i) (sym whole) ∙ (d.same i ∙ sym (ap₂ (act o) (across-inside 0 a 4097 i ha) (across-inside 0 b 4097 i hb))));
      rows = rw (← half) r;
      rest = rw (← half) s;
    }
  where
    half : (n + 1) / 2 ≡ n / 2
    half = omega (arith, d.pairs)

    whole : take n (edges out) ≡ edges (take (n / 2) out)
    whole = let e : n ≡ 2 * (n / 2) = omega (arith, d.pairs) in ap (λ z. take z (edges out)) e ∙ edges-take out (n / 2)

    up : Between 0 (edges (take (n / 2) out)) 4097
    up = rw whole at d.rises

pub returns-then-x : goal.returns-then-x
returns-then-x c =
    let na : none ≤ get_or (edges (rects c.args.a.now)) c.sweep.p none = omega (arith, c.edge.ensures) in
    let nb : none ≤ get_or (edges (rects c.args.b.now)) c.sweep.q none = omega (arith, c.edge-in-sweep.ensures) in
    let d : Done (act c.args.op) (edges (rects c.args.a.now)) (edges (rects c.args.b.now)) (edges (rects c.sweep.out)) c.sweep.n =
    at_done _ _ _ _ _ _ _ (empty c.args.op) c.requires.left c.requires.right (odd-edges (rects c.args.a.now)) (odd-edges (rects c.args.b.now)) c.sweep.invariant.0 na nb in
    finish c.args.op (rects c.args.a.now) (rects c.args.b.now) (rects c.sweep.out) (rects c.args.out.now) c.sweep.n c.args.top c.args.below c.requires.left c.requires.right d c.sweep.invariant.1 c.sweep.invariant.2

pub passed-p-requires : goal.passed-p-requires
passed-p-requires c = omega (arith, count 0 (edges (rects c.args.a.now)) 4097 c.requires.left)

pub passed-q-requires : goal.passed-q-requires
passed-q-requires c = omega (arith, count 0 (edges (rects c.args.b.now)) 4097 c.requires.right)

pub put_edge-requires : goal.put_edge-requires
put_edge-requires c =
    let t : Turn (edges (rects c.args.a.now)) (edges (rects c.args.b.now)) c.sweep.p c.sweep.q c.passed-p.result c.passed-q.result c.min-x.result c.sweep.invariant.0.at =
    turn _ _ _ _ _ _ _ _ _ _ c.requires.left c.requires.right c.sweep.invariant.0 (c.min-x.ensures ∙ ap₂ min c.edge.ensures c.edge-in-sweep.ensures) c.if-x.false c.passed-p.ensures c.passed-q.ensures in
    omega (arith, t.on, t.a.within, t.b.within, length-edges (rects c.args.a.now), length-edges (rects c.args.b.now), length-rects c.args.out.now, length-rects c.sweep.out, c.requires.room, c.sweep.auto.out)

pub overflow_add-n : goal.overflow_add-n
overflow_add-n c = omega (arith, count 0 (edges (rects c.args.a.now)) 4097 c.requires.left, count 0 (edges (rects c.args.b.now)) 4097 c.requires.right)

pub sweep-smaller-then-inside-n : goal.sweep-smaller-then-inside-n
sweep-smaller-then-inside-n c =
    let t : Turn (edges (rects c.args.a.now)) (edges (rects c.args.b.now)) c.sweep.p c.sweep.q c.passed-p.result c.passed-q.result c.min-x.result c.sweep.invariant.0.at =
    turn _ _ _ _ _ _ _ _ _ _ c.requires.left c.requires.right c.sweep.invariant.0 (c.min-x.ensures ∙ ap₂ min c.edge.ensures c.edge-in-sweep.ensures) c.if-x.false c.passed-p.ensures c.passed-q.ensures in
    omega (arith, t.on, t.a.within, t.b.within, length-edges (rects c.args.a.now), length-edges (rects c.args.b.now), length-rects c.args.out.now, length-rects c.sweep.out, c.requires.room, c.sweep.auto.out)

pub sweep-preserved-then-inside-n : goal.sweep-preserved-then-inside-n
sweep-preserved-then-inside-n c =
    let t : Turn (edges (rects c.args.a.now)) (edges (rects c.args.b.now)) c.sweep.p c.sweep.q c.passed-p.result c.passed-q.result c.min-x.result c.sweep.invariant.0.at =
    turn _ _ _ _ _ _ _ _ _ _ c.requires.left c.requires.right c.sweep.invariant.0 (c.min-x.ensures ∙ ap₂ min c.edge.ensures c.edge-in-sweep.ensures) c.if-x.false c.passed-p.ensures c.passed-q.ensures in
    let room : c.sweep.n < 2 * length (rects c.sweep.out) = omega (arith, t.on, t.a.within, t.b.within, length-edges (rects c.args.a.now), length-edges (rects c.args.b.now), length-rects c.args.out.now, length-rects c.sweep.out, c.requires.room, c.sweep.auto.out) in
    let new : List Rect = placed (rects c.sweep.out) c.sweep.n c.min-x.result c.args.top c.args.below in
    let P : List Rect → Type 0 =
    λ o. At (act c.args.op) (edges (rects c.args.a.now)) (edges (rects c.args.b.now)) (edges o) c.passed-p.result c.passed-q.result (c.sweep.n + 1)
    × Rows c.args.top c.args.below (take ((c.sweep.n + 1 + 1) / 2) o)
    × (drop ((c.sweep.n + 1 + 1) / 2) o ≡ drop ((c.sweep.n + 1 + 1) / 2) (rects c.args.out.now)) in
    let fits : c.sweep.n + 1 ≤ length (edges new) = simp (length-edges, length-set) (omega arith) in
    subst P (sym c.put_edge.ensures) (
      at-write _ _ _ _ (edges new) _ _ _ _ _ _ c.sweep.invariant.0 t.a t.b t.from t.low (λ e. differ _ _ c.if-inside-n.true (e ∙ sym c.holds-inside.ensures))
          (edges_placed (rects c.sweep.out) c.sweep.n c.min-x.result c.args.top c.args.below room) t.on fits,
      rows-placed (rects c.sweep.out) c.sweep.n c.min-x.result c.args.top c.args.below room c.sweep.invariant.1,
      rest-placed (rects c.sweep.out) (rects c.args.out.now) c.sweep.n c.min-x.result c.args.top c.args.below c.sweep.invariant.2,
    )

pub sweep-smaller : goal.sweep-smaller
sweep-smaller c =
    let t : Turn (edges (rects c.args.a.now)) (edges (rects c.args.b.now)) c.sweep.p c.sweep.q c.passed-p.result c.passed-q.result c.min-x.result c.sweep.invariant.0.at =
    turn _ _ _ _ _ _ _ _ _ _ c.requires.left c.requires.right c.sweep.invariant.0 (c.min-x.ensures ∙ ap₂ min c.edge.ensures c.edge-in-sweep.ensures) c.if-x.false c.passed-p.ensures c.passed-q.ensures in
    omega (arith, t.on, t.a.within, t.b.within, length-edges (rects c.args.a.now), length-edges (rects c.args.b.now), length-rects c.args.out.now, length-rects c.sweep.out, c.requires.room, c.sweep.auto.out)

pub sweep-preserved : goal.sweep-preserved
sweep-preserved c =
    let t : Turn (edges (rects c.args.a.now)) (edges (rects c.args.b.now)) c.sweep.p c.sweep.q c.passed-p.result c.passed-q.result c.min-x.result c.sweep.invariant.0.at =
    turn _ _ _ _ _ _ _ _ _ _ c.requires.left c.requires.right c.sweep.invariant.0 (c.min-x.ensures ∙ ap₂ min c.edge.ensures c.edge-in-sweep.ensures) c.if-x.false c.passed-p.ensures c.passed-q.ensures in
    (at-keep _ _ _ _ (edges (rects c.sweep.out)) _ _ _ _ _ _ c.sweep.invariant.0 t.a t.b t.from t.low (agree _ _ c.if-inside-n.false ∙ c.holds-inside.ensures), c.sweep.invariant.1, c.sweep.invariant.2)
