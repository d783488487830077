-- The cells of a grid cover a set exactly, if no cell has dots of both kinds.
use Rattle.std.proofs.Common.{◌≡◌, ℕ, suc, ◌+◌, ◌-◌, ◌*◌, ◌<◌, ◌≤◌, Bool, true, false, ◌&&◌, ltb, leb, ◌⊎◌, List, [], ◌∷◌, ◌++◌, length, sym, refl, ap, ◌∙◌, inl, inr, arith, length-append, ltb-true, le-leb, leb-false, leb-true}
use borrow.Author.Tests.{lt-leb}
use Rattle.std.proofs.lemmas.Bool.Decides.{nat_tests}
use Rattle.std.proofs.lemmas.Bool.{and_parts, cases_lt}
use Rattle.model.specs.Basics.{bit, in_box}
use Rattle.model.specs.System.{Rect, in_rect, covered, Solid}
use Rattle.model.specs.Grid.{sides, insert, sorted, cell, row_cells, cells}
use Rattle.model.proofs.Picks.{by-pick}
use Rattle.model.proofs.Boxes.{covered-append}

-- i lies from a up to, and without, b
abbrev pub span : ℕ → ℕ → ℕ → Bool
span a b i = leb a i && ltb i b

span-sides : (a b i : ℕ) → (leb a i && ltb i (a + (b - a))) ≡ span a b i
span-sides a b i = grind (arith, nat_tests)

pub in-sides : (x x' y y' i j : ℕ) → in_rect (sides x x' y y') i j ≡ (span x x' i && span y y' j)
unfolding in_box
in-sides x x' y y' i j = rw (span-sides x x' i, span-sides y y' j)

-- no edge lies between two places
abbrev pub Agree : List ℕ → ℕ → ℕ → Type 0
Agree [] a i = Unit {0}
Agree (e ∷ es) a i = (leb e a ≡ leb e i) × Agree es a i

-- all are at least, or at most, a number
abbrev pub From : ℕ → List ℕ → Type 0
From a [] = Unit {0}
From a (e ∷ es) = (a ≤ e) × From a es

abbrev pub Upto : ℕ → List ℕ → Type 0
Upto w [] = Unit {0}
Upto w (e ∷ es) = (e ≤ w) × Upto w es

abbrev pub Rising : List ℕ → Type 0
Rising [] = Unit {0}
Rising (e ∷ es) = From e es × Rising es

insert-from : (a e : ℕ) (fs : List ℕ) → a ≤ e → From a fs → From a (insert e fs)
unfolding insert
insert-from a e [] h t = (h, tt)
insert-from a e (f ∷ fs) h t = by-pick (leb e f) (e ∷ f ∷ fs) (f ∷ insert e fs) (From a) (λ _. (h, t)) (λ _. (t.0, insert-from a e fs h t.1))

from_less : (a b : ℕ) (fs : List ℕ) → a ≤ b → From b fs → From a fs
from_less a b [] h t = tt
from_less a b (f ∷ fs) h t = (omega arith, from_less a b fs h t.1)

insert-rising : (e : ℕ) (fs : List ℕ) → Rising fs → Rising (insert e fs)
unfolding insert
insert-rising e [] r = (tt, tt)
insert-rising e (f ∷ fs) r =
    by-pick (leb e f) (e ∷ f ∷ fs) (f ∷ insert e fs) Rising (λ t. let h = leb-true e f t in ((h, from_less e f fs h r.0), r))
    (λ t. let h = leb-false e f t in let k : f ≤ e = omega arith in (insert-from f e fs k r.0, insert-rising e fs r.1))

pub sorted-rising : (es : List ℕ) → Rising (sorted es)
unfolding sorted
sorted-rising [] = tt
sorted-rising (e ∷ es) = insert-rising e (sorted es) (sorted-rising es)

insert-upto : (w e : ℕ) (fs : List ℕ) → e ≤ w → Upto w fs → Upto w (insert e fs)
unfolding insert
insert-upto w e [] h t = (h, tt)
insert-upto w e (f ∷ fs) h t = by-pick (leb e f) (e ∷ f ∷ fs) (f ∷ insert e fs) (Upto w) (λ _. (h, t)) (λ _. (t.0, insert-upto w e fs h t.1))

pub sorted-upto : (w : ℕ) (es : List ℕ) → Upto w es → Upto w (sorted es)
unfolding sorted
sorted-upto w [] t = tt
sorted-upto w (e ∷ es) t = insert-upto w e (sorted es) t.0 (sorted-upto w es t.1)

-- what agrees with the sorted edges agrees with the edges
insert-agree : (e : ℕ) (fs : List ℕ) (a i : ℕ) → Agree (insert e fs) a i → (leb e a ≡ leb e i) × Agree fs a i
unfolding insert
insert-agree e [] a i = λ t. t
insert-agree e (f ∷ fs) a i =
    by-pick (leb e f) (e ∷ f ∷ fs) (f ∷ insert e fs) (λ l. Agree l a i → (leb e a ≡ leb e i) × Agree (f ∷ fs) a i) (λ _ t. t)
    (λ _ t. let q = insert-agree e fs a i t.1 in (q.0, (t.0, q.1)))

pub sorted-agree : (es : List ℕ) (a i : ℕ) → Agree (sorted es) a i → Agree es a i
unfolding sorted
sorted-agree [] a i t = tt
sorted-agree (e ∷ es) a i t = let q = insert-agree e (sorted es) a i t in (q.0, sorted-agree es a i q.1)

-- edges beyond both places
pub from-agree : (b a i : ℕ) (es : List ℕ) → a < b → i < b → From b es → Agree es a i
from-agree b a i [] p q t = tt
from-agree b a i (e ∷ es) p q t = (lt-leb e a (let h = t.0 in omega arith) ∙ sym (lt-leb e i (let h = t.0 in omega arith)), from-agree b a i es p q t.1)

-- two parts of a line
join-split : (l r w k x y : Bool) → ((l ≡ true) × (r ≡ false) × (w ≡ true)) ⊎ ((l ≡ false) × (r ≡ w)) → (l ≡ true → x ≡ y) → bit (l && (k && x)) + bit (r && (k && y)) ≡ bit (w && (k && y))
join-split l r w k x y c h =
    elim c [
      | inl t ↦ let q = h t.0 in rw (t.0, t.1, t.2, q) (one (k && y))
      | inr t ↦ rw (t.0, t.1) (two (w && (k && y)))
    ]
  where
    one : (b : Bool) → bit b + 0 ≡ bit b
    one true = refl
    one false = refl

    two : (b : Bool) → 0 + bit b ≡ bit b
    two true = refl
    two false = refl

parts : (a b w i : ℕ) → a ≤ b → b ≤ w → ((span a b i ≡ true) × (span b w i ≡ false) × (span a w i ≡ true)) ⊎ ((span a b i ≡ false) × (span b w i ≡ span a w i))
parts a b w i p q =
    elim (cases_lt i b) [
      | inl h ↦ elim (cases_lt i a) [ inl k ↦ inr (grind (arith, nat_tests), grind (arith, nat_tests)) | inr k ↦ inl (grind (arith, nat_tests), grind (arith, nat_tests), grind (arith, nat_tests)) ]
      | inr h ↦ inr (grind (arith, nat_tests), grind (arith, nat_tests))
    ]

cell-part : (s : ℕ → ℕ → Bool) (a b c c' i j : ℕ) → covered (cell s a b c c') i j ≡ bit (span a b i && (span c c' j && s a c))
unfolding covered
cell-part s a b c c' i j =
    by-pick ((ltb a b && ltb c c') && s a c) (sides a b c c' ∷ []) [] (λ l. covered l i j ≡ bit (span a b i && (span c c' j && s a c)))
    (λ e. ap bit (in-sides a b c c' i j ∙ kept_in (span a b i) (span c c' j) (s a c) (and_parts _ _ e).1))
    (λ e. sym (ap bit (left_out a b c c' i j (s a c) e)))
  where
    kept_in : (p q t : Bool) → t ≡ true → (p && q) ≡ (p && (q && t))
    kept_in p q t e = grind arith

    left_out : (a b c c' i j : ℕ) (t : Bool) → ((ltb a b && ltb c c') && t) ≡ false → (span a b i && (span c c' j && t)) ≡ false
    left_out a b c c' i j t e = grind (arith, nat_tests)

where-in : (p k x y : Bool) → (p ≡ true → x ≡ y) → bit (p && (k && x)) ≡ bit (p && (k && y))
where-in true k x y h = rw (h refl)
where-in false k x y h = refl

span-ends : (a b i : ℕ) → span a b i ≡ true → (a ≤ i) × (i < b)
span-ends a b i e = let p = and_parts (leb a i) (ltb i b) e in (leb-true a i p.0, ltb-true i b p.1)

row_count : (s : ℕ → ℕ → Bool) (w c c' i j : ℕ) (bs : List ℕ) (a : ℕ) → a ≤ w → Rising (a ∷ bs) → Upto w bs → ((u v : ℕ) → a ≤ u → a ≤ v → u < w → v < w → Agree bs u v → s u c ≡ s v c) →
    covered (row_cells s w c c' a bs) i j ≡ bit (span a w i && (span c c' j && s i c))
unfolding row_cells
row_count s w c c' i j [] a l r t h = cell-part s a w c c' i j ∙ where-in (span a w i) (span c c' j) (s a c) (s i c) (λ e. let p = span-ends a w i e in h a i (omega arith) p.0 (omega arith) p.1 tt)
row_count s w c c' i j (b ∷ bs) a l r t h =
    covered-append (cell s a b c c') (row_cells s w c c' b bs) i j ∙
    rw (cell-part s a b c c' i j, row_count s w c c' i j bs b t.0 r.1 t.1 more)
    (join-split (span a b i) (span b w i) (span a w i) (span c c' j) (s a c) (s i c) (parts a b w i r.0.0 t.0) near)
  where
    more : (u v : ℕ) → b ≤ u → b ≤ v → u < w → v < w → Agree bs u v → s u c ≡ s v c
    more u v p q m n g = let k = r.0.0 in h u v (omega arith) (omega arith) m n (le-leb b u p ∙ sym (le-leb b v q), g)

    near : span a b i ≡ true → s a c ≡ s i c
    near e =
        let p = span-ends a b i e in
        let q : a < b = omega arith in
        let z = t.0 in
        h a i (omega arith) p.0 (omega arith) (omega arith) (lt-leb b a q ∙ sym (lt-leb b i p.1), from-agree b a i bs q p.1 r.1.0)

-- the cells over a grid
cells_count : (s : ℕ → ℕ → Bool) (w h i j : ℕ) (xs cs : List ℕ) (c : ℕ) → Rising (0 ∷ xs) → Upto w xs → c ≤ h → Rising (c ∷ cs) → Upto h cs →
    ((k u v : ℕ) → u < w → v < w → Agree xs u v → s u k ≡ s v k) → ((k u v : ℕ) → c ≤ u → c ≤ v → u < h → v < h → Agree cs u v → s k u ≡ s k v) →
    covered (cells s w h xs c cs) i j ≡ bit (span c h j && (span 0 w i && s i j))
unfolding cells
cells_count s w h i j xs [] c rx tx l r t hx hy =
    row_count s w c h i j xs 0 (omega arith) rx tx (λ u v _ _ m n g. hx c u v m n g) ∙ swap (span 0 w i) (span c h j) (s i c) ∙
    where-in (span c h j) (span 0 w i) (s i c) (s i j) (λ e. let p = span-ends c h j e in hy i c j (omega arith) p.0 (omega arith) p.1 tt)
  where
    swap : (p q x : Bool) → bit (p && (q && x)) ≡ bit (q && (p && x))
    swap p q x = grind arith
cells_count s w h i j xs (b ∷ cs) c rx tx l r t hx hy =
    covered-append (row_cells s w c b 0 xs) (cells s w h xs b cs) i j ∙
    rw (row_count s w c b i j xs 0 (omega arith) rx tx (λ u v _ _ m n g. hx c u v m n g), swap (span 0 w i) (span c b j) (s i c), cells_count s w h i j xs cs b rx tx t.0 r.1 t.1 hx more)
    (join-split (span c b j) (span b h j) (span c h j) (span 0 w i) (s i c) (s i j) (parts c b h j r.0.0 t.0) near)
  where
    swap : (p q x : Bool) → bit (p && (q && x)) ≡ bit (q && (p && x))
    swap p q x = grind arith

    more : (k u v : ℕ) → b ≤ u → b ≤ v → u < h → v < h → Agree cs u v → s k u ≡ s k v
    more k u v p q m n g = let o = r.0.0 in hy k u v (omega arith) (omega arith) m n (le-leb b u p ∙ sym (le-leb b v q), g)

    near : span c b j ≡ true → s i c ≡ s i j
    near e =
        let p = span-ends c b j e in
        let q : c < b = omega arith in
        let z = t.0 in
        hy i c j (omega arith) p.0 (omega arith) (omega arith) (lt-leb b c q ∙ sym (lt-leb b j p.1), from-agree b c j cs q p.1 r.1.0)

pub from-zero-all : (es : List ℕ) → From 0 es
from-zero-all [] = tt
from-zero-all (e ∷ es) = (omega arith, from-zero-all es)

-- a set that no cell divides
pub grid-count : (s : ℕ → ℕ → Bool) (w h i j : ℕ) (xs ys : List ℕ) → Upto w xs → Upto h ys → ((k u v : ℕ) → u < w → v < w → Agree xs u v → s u k ≡ s v k) → ((k u v : ℕ) → u < h → v < h → Agree ys u v → s k u ≡ s k v) →
    covered (cells s w h (sorted xs) 0 (sorted ys)) i j ≡ bit ((ltb i w && ltb j h) && s i j)
grid-count s w h i j xs ys tx ty hx hy =
    cells_count s w h i j (sorted xs) (sorted ys) 0 (from-zero-all (sorted xs), sorted-rising xs) (sorted-upto w xs tx) (omega arith) (from-zero-all (sorted ys), sorted-rising ys) (sorted-upto h ys ty)
    (λ k u v m n g. hx k u v m n (sorted-agree xs u v g)) (λ k u v _ _ m n g. hy k u v m n (sorted-agree ys u v g)) ∙ rest
  where
    rest : bit (span 0 h j && (span 0 w i && s i j)) ≡ bit ((ltb i w && ltb j h) && s i j)
    rest = grind (arith, nat_tests)

-- how many boxes there are at most
part_length : (s : ℕ → ℕ → Bool) (a b c c' : ℕ) → length (cell s a b c c') ≤ 1
part_length s a b c c' = by-pick ((ltb a b && ltb c c') && s a c) (sides a b c c' ∷ []) [] (λ l. length l ≤ 1) (λ _. omega arith) (λ _. omega arith)

row-length : (s : ℕ → ℕ → Bool) (w c c' : ℕ) (bs : List ℕ) (a : ℕ) → length (row_cells s w c c' a bs) ≤ suc (length bs)
unfolding row_cells
row-length s w c c' [] a = part_length s a w c c'
row-length s w c c' (b ∷ bs) a =
    let p = part_length s a b c c' in
    let q = row-length s w c c' bs b in
    simp length-append (omega arith)

pub cells-length : (s : ℕ → ℕ → Bool) (w h : ℕ) (xs cs : List ℕ) (c : ℕ) → length (cells s w h xs c cs) ≤ suc (length cs) * suc (length xs)
unfolding cells
cells-length s w h xs [] c = let p = row-length s w c h xs 0 in omega arith
cells-length s w h xs (b ∷ cs) c =
    let p = row-length s w c b xs 0 in
    let q = cells-length s w h xs cs b in
    simp length-append (omega arith)

-- and each has dots
pub solid-both : (rs ss : List Rect) → Solid rs → Solid ss → Solid (rs ++ ss)
solid-both [] ss p q = q
solid-both (r ∷ rs) ss p q = (p.0, p.1, solid-both rs ss p.2 q)

cell-solid : (s : ℕ → ℕ → Bool) (a b c c' : ℕ) → Solid (cell s a b c c')
cell-solid s a b c c' =
    by-pick ((ltb a b && ltb c c') && s a c) (sides a b c c' ∷ []) [] Solid
    (λ e.
    let p = and_parts (ltb a b) (ltb c c') (and_parts (ltb a b && ltb c c') (s a c) e).0 in
    let h = ltb-true a b p.0 in
    let k = ltb-true c c' p.1 in
    (omega arith, omega arith, tt))
    (λ _. tt)

row-solid : (s : ℕ → ℕ → Bool) (w c c' : ℕ) (bs : List ℕ) (a : ℕ) → Solid (row_cells s w c c' a bs)
unfolding row_cells
row-solid s w c c' [] a = cell-solid s a w c c'
row-solid s w c c' (b ∷ bs) a = solid-both (cell s a b c c') (row_cells s w c c' b bs) (cell-solid s a b c c') (row-solid s w c c' bs b)

pub cells-solid : (s : ℕ → ℕ → Bool) (w h : ℕ) (xs cs : List ℕ) (c : ℕ) → Solid (cells s w h xs c cs)
unfolding cells
cells-solid s w h xs [] c = row-solid s w c h xs 0
cells-solid s w h xs (b ∷ cs) c = solid-both (row_cells s w c b 0 xs) (cells s w h xs b cs) (row-solid s w c b xs 0) (cells-solid s w h xs cs b)
