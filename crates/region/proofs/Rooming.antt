-- The room that a sweep over the bands of two regions wants.
use Rattle.std.proofs.Common.{◌≡◌, ℕ, zero, suc, ◌+◌, ◌-◌, ◌*◌, ◌<◌, ◌≤◌, Bool, false, List, [], length, take, drop, sym, ap, ◌∙◌, ap₂, mul_comm, mul-add, arith}
use Rattle.std.proofs.lemmas.List.{length-take-le, length-drop}
use Rattle.geometry.specs.declared.Rect.{Rect}
use Rattle.region.specs.Edges.{inside}
use Rattle.region.specs.Boxes.{edges}
use Rattle.region.specs.Bands.{row_at}
use Rattle.region.specs.Flat.{covers, flat}
use Rattle.region.specs.Reader.{Slab}
use Rattle.region.specs.Lines.{among, before, Only, Lines, Roomy}
use Rattle.region.proofs.Pairs.{length-edges, across-inside}
use Rattle.region.proofs.Counting.{row-few, region-few}
use Rattle.region.proofs.Building.{Built}

-- the row that a reader stands at has few boxes
pub slab-few : (a : List Rect) (p y pe ya : ℕ) (X Y : List ℕ) → Slab a p y pe ya → Lines X Y a → 2 * (pe - p) ≤ length X
slab-few a p y pe ya X Y s l =
    let h : length (edges A) ≤ length X = row-few (edges A) 4097 X s.row changes in
    omega (arith, length-edges A, size)
  where
    A : List Rect
    A = take (pe - p) (drop p a)

    size : length A ≡ pe - p
    size = length-take-le (pe - p) (drop p a) (omega (arith, length-drop p a, s.last))

    is : (i : ℕ) → inside (edges A) i ≡ covers a i y
    is i = sym (s.dots i y (omega arith) s.later ∙ across-inside 0 A 4097 i s.row)

    changes : Only X (inside (edges A))
    changes zero m = is 0 ∙ l.columns y 0 m
    changes (suc i) m = is (suc i) ∙ (l.columns y (suc i) m ∙ sym (is i))

pub room : (f : Bool → Bool → Bool) (a b out : List Rect) (p q y m n pe ya qe yb : ℕ) → f false false ≡ false → Built f a b out p q y m n → Slab a p y pe ya → Slab b q y qe yb → Roomy a b (length out) →
    n + ((pe - p) + (qe - q)) ≤ length out
room f a b out p q y m n pe ya qe yb ff s sa sb r =
    omega (arith, slab-few a p y pe ya r.X r.Y sa r.on_a, slab-few b q y qe yb r.X r.Y sb r.on_b, boxes, size, r.enough, mul-add (length r.X) (length r.Y) 2, mul_comm (length r.Y) (length r.X))
  where
    size : length (flat 0 [] s.bands y) ≡ n
    size = ap length (s.ready y ∙ sym s.here) ∙ length-take-le n out s.within

    columns : (j : ℕ) → j < y → Only r.X (inside (row_at [] s.bands j))
    columns j l zero u = s.same 0 j l ∙ (ap₂ f (r.on_a.columns j 0 u) (r.on_b.columns j 0 u) ∙ ff)
    columns j l (suc i) u = s.same (suc i) j l ∙ (ap₂ f (r.on_a.columns j (suc i) u) (r.on_b.columns j (suc i) u) ∙ sym (s.same i j l))

    rows : (i j : ℕ) → j < y → among r.Y j ≡ false → inside (row_at [] s.bands j) i ≡ before (λ k. inside (row_at [] s.bands k) i) j
    rows i zero l u = s.same i 0 l ∙ (ap₂ f (r.on_a.rows i 0 u) (r.on_b.rows i 0 u) ∙ ff)
    rows i (suc j) l u = s.same i (suc j) l ∙ (ap₂ f (r.on_a.rows i (suc j) u) (r.on_b.rows i (suc j) u) ∙ sym (s.same i j (omega arith)))

    boxes : 2 * length (flat 0 [] s.bands y) ≤ length r.Y * length r.X
    boxes = region-few s.bands y y r.X r.Y s.good columns rows
