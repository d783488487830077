-- Boxes that share no dot and lie on the screen have together no more dots than the screen.
use Rattle.std.proofs.Common.{◌≡◌, ℕ, zero, suc, ◌+◌, ◌-◌, ◌*◌, ◌<◌, ◌≤◌, min, Bool, true, false, ◌&&◌, ltb, leb, ◌⊎◌, List, [], ◌∷◌, map, length, sym, refl, ap, ◌∙◌, inl, inr, mul_comm, mul-zero, zero-mul, arith, length-append, ltb-true, leb-true}
use Rattle.std.proofs.lemmas.Bool.Decides.{nat_tests}
use Rattle.std.proofs.lemmas.Bool.{and_parts, cases_lt}
use Rattle.model.specs.Basics.{pick, bit, in_box, in_run}
use Rattle.model.specs.Desk.{Sizes}
use Rattle.model.specs.System.{Rect, in_rect, covered, coloured, on}
use Rattle.model.proofs.Picks.{by-pick, bit-small}
use Rattle.model.proofs.Boxes.{covered-cons, coloured-length}
use Rattle.damage.specs.Encode.{encode}

-- the dots of all boxes
unfoldable pub areas : List Rect → ℕ
areas [] = 0
areas (r ∷ rs) = r.high * r.wide + areas rs

-- the sum of f over 0 up to n, and over the dots of a screen
abbrev sum : ℕ → (ℕ → ℕ) → ℕ
sum zero f = 0
sum (suc n) f = f n + sum n f

abbrev over : ℕ → ℕ → (ℕ → ℕ → ℕ) → ℕ
over w h f = sum h (λ j. sum w (λ i. f i j))

sum_by : (n : ℕ) (f g : ℕ → ℕ) → ((k : ℕ) → k < n → f k ≡ g k) → sum n f ≡ sum n g
sum_by zero f g e = refl
sum_by (suc n) f g e = let a = e n (omega arith) in let b = sum_by n f g (λ k h. e k (omega arith)) in omega arith

sum_less : (n : ℕ) (f g : ℕ → ℕ) → ((k : ℕ) → k < n → f k ≤ g k) → sum n f ≤ sum n g
sum_less zero f g e = omega arith
sum_less (suc n) f g e = let a = e n (omega arith) in let b = sum_less n f g (λ k h. e k (omega arith)) in omega arith

sum-add : (n : ℕ) (f g : ℕ → ℕ) → sum n (λ k. f k + g k) ≡ sum n f + sum n g
sum-add zero f g = refl
sum-add (suc n) f g = let b = sum-add n f g in omega arith

sum_same : (n c : ℕ) → sum n (λ _. c) ≡ n * c
sum_same zero c = sym (zero-mul c)
sum_same (suc n) c = let b = sum_same n c in omega arith

sum-gate : (n : ℕ) (b : Bool) (f : ℕ → Bool) → sum n (λ k. bit (f k && b)) ≡ pick b (sum n (λ k. bit (f k))) 0
sum-gate n true f = sum_by n _ _ (λ k _. and-true (f k))
  where
    and-true : (q : Bool) → bit (q && true) ≡ bit q
    and-true true = refl
    and-true false = refl
sum-gate n false f = sum_by n _ (λ _. 0) (λ k _. and-false (f k)) ∙ sum_same n 0 ∙ mul-zero n
  where
    and-false : (q : Bool) → bit (q && false) ≡ 0
    and-false true = refl
    and-false false = refl

-- a run within n places
sum-run : (n x w : ℕ) → sum n (λ k. bit (in_run x w k)) ≡ min n (x + w) - min n x
sum-run zero x w = omega arith
sum-run (suc n) x w =
    let b = sum-run n x w in
    by-pick (in_run x w n) 1 0 (λ v. v + sum n (λ k. bit (in_run x w k)) ≡ min (suc n) (x + w) - min (suc n) x)
    (λ e. let p = and_parts (leb x n) (ltb n (x + w)) e in let l = leb-true x n p.0 in let r = ltb-true n (x + w) p.1 in omega arith)
    (λ e. out e (cases_lt n x) (cases_lt n (x + w)) b)
  where
    out : in_run x w n ≡ false → (n < x) ⊎ (x ≤ n) → (n < x + w) ⊎ (x + w ≤ n) → sum n (λ k. bit (in_run x w k)) ≡ min n (x + w) - min n x → 0 + sum n (λ k. bit (in_run x w k)) ≡ min (suc n) (x + w) - min (suc n) x
    out e (inl l) r b = omega arith
    out e (inr l) (inr r) b = omega arith
    out e (inr l) (inl r) b = let z : in_run x w n ≡ true = grind (arith, nat_tests) in let k : ◌≡◌ {A = ℕ} 0 1 = ap bit (sym e ∙ z) in omega arith

sum-pick : (n c : ℕ) (f : ℕ → Bool) → sum n (λ k. pick (f k) c 0) ≡ sum n (λ k. bit (f k)) * c
sum-pick zero c f = sym (zero-mul c)
sum-pick (suc n) c f =
    let b = sum-pick n c f in
    by-pick (f n) 1 0 (λ v. pick (f n) c 0 + sum n (λ k. pick (f k) c 0) ≡ (v + sum n (λ k. bit (f k))) * c) (λ e. rw e (omega arith)) (λ e. rw e (omega arith))

-- a box that lies on the screen
box-sum : (w h : ℕ) (r : Rect) → r.x + r.wide ≤ w → r.y + r.high ≤ h → over w h (λ i j. bit (in_rect r i j)) ≡ r.high * r.wide
unfolding in_box
box-sum w h r p q =
    let a : min w (r.x + r.wide) - min w r.x ≡ r.wide = omega arith in
    let b : min h (r.y + r.high) - min h r.y ≡ r.high = omega arith in
    sum_by h _ (λ j. pick (in_run r.y r.high j) r.wide 0)
    (λ j _. sum-gate w (in_run r.y r.high j) (in_run r.x r.wide) ∙ ap (λ (v : ℕ). pick (in_run r.y r.high j) v 0) (sum-run w r.x r.wide ∙ a)) ∙
    sum-pick h r.wide (in_run r.y r.high) ∙ ap (λ v. v * r.wide) (sum-run h r.y r.high ∙ b)

over_add : (w h : ℕ) (f g : ℕ → ℕ → ℕ) → over w h (λ i j. f i j + g i j) ≡ over w h f + over w h g
over_add w h f g = sum_by h _ (λ j. sum w (λ i. f i j) + sum w (λ i. g i j)) (λ j _. sum-add w (λ i. f i j) (λ i. g i j)) ∙ sum-add h (λ j. sum w (λ i. f i j)) (λ j. sum w (λ i. g i j))

-- a box without dots, or one that lies on the screen
abbrev FitsOn : Sizes → Rect → Type 0
FitsOn z r = (r.high * r.wide ≡ 0) ⊎ ((r.x + r.wide ≤ z.wide) × (r.y + r.high ≤ z.high))

corner-in : (r : Rect) → 0 < r.wide → 0 < r.high → in_rect r (r.x + (r.wide - 1)) (r.y + (r.high - 1)) ≡ true
unfolding in_box
corner-in r p q = grind (arith, nat_tests)

on-parts : (z : Sizes) (i j : ℕ) → 1 ≤ bit (on z i j) → (i < z.wide) × (j < z.high)
on-parts z i j = by-pick (on z i j) 1 0 (λ v. 1 ≤ v → (i < z.wide) × (j < z.high)) (λ e _. let p = and_parts (ltb i z.wide) (ltb j z.high) e in (ltb-true _ _ p.0, ltb-true _ _ p.1)) (λ e h. absurd (omega arith))

fits_on : (z : Sizes) (r : Rect) (rs : List Rect) → ((i j : ℕ) → covered (r ∷ rs) i j ≤ bit (on z i j)) → FitsOn z r
fits_on z r rs h = by (cases_lt 0 r.wide) (cases_lt 0 r.high)
  where
    by : (0 < r.wide) ⊎ (r.wide ≤ 0) → (0 < r.high) ⊎ (r.high ≤ 0) → FitsOn z r
    by (inr a) b = let e : r.wide ≡ 0 = omega arith in inl (rw e (mul-zero r.high))
    by (inl a) (inr b) = let e : r.high ≡ 0 = omega arith in inl (rw e (zero-mul r.wide))
    by (inl a) (inl b) =
        let i = r.x + (r.wide - 1) in
        let j = r.y + (r.high - 1) in
        let c = covered-cons r rs i j in
        let t : bit (in_rect r i j) ≡ 1 = ap bit (corner-in r a b) in
        let m = h i j in
        let o = on-parts z i j (omega (arith, c, t, m)) in
        inr (omega (arith, o.0), omega (arith, o.1))

box-less : (z : Sizes) (r : Rect) → FitsOn z r → r.high * r.wide ≤ over z.wide z.high (λ i j. bit (in_rect r i j))
box-less z r (inl e) = omega arith
box-less z r (inr p) = omega (arith, box-sum z.wide z.high r p.0 p.1)

areas-sum : (z : Sizes) (rs : List Rect) → ((i j : ℕ) → covered rs i j ≤ bit (on z i j)) → areas rs ≤ over z.wide z.high (covered rs)
unfolding areas
areas-sum z [] h = omega arith
areas-sum z (r ∷ rs) h =
    let a = box-less z r (fits_on z r rs h) in
    let b = areas-sum z rs (λ i j. omega (arith, h i j, covered-cons r rs i j)) in
    let c = over_add z.wide z.high (λ i j. bit (in_rect r i j)) (covered rs) in
    let d : over z.wide z.high (covered (r ∷ rs)) ≡ over z.wide z.high (λ i j. bit (in_rect r i j) + covered rs i j) = sum_by z.high _ _ (λ j _. sum_by z.wide _ _ (λ i _. covered-cons r rs i j)) in
    omega (arith, a, b, c, d)

-- no dot is in two of the boxes, and none outside the screen
pub areas-fit : (z : Sizes) (rs : List Rect) → ((i j : ℕ) → covered rs i j ≤ bit (on z i j)) → areas rs ≤ z.wide * z.high
areas-fit z rs h =
    let a = areas-sum z rs h in
    let b : over z.wide z.high (covered rs) ≤ over z.wide z.high (λ _ _. 1) = sum_less z.high _ _ (λ j _. sum_less z.wide _ _ (λ i _. omega (arith, h i j, bit-small (on z i j)))) in
    let c : over z.wide z.high (λ _ _. 1) ≡ z.high * (z.wide * 1) = sum_by z.high _ (λ _. z.wide * 1) (λ j _. sum_same z.wide 1) ∙ sum_same z.high (z.wide * 1) in
    omega (arith, a, b, c, mul_comm z.wide z.high)

-- boxes as words: two words for each, and the dots
pub sent-length : (f : ℕ → ℕ → ℕ) (rs : List Rect) → length (encode (map (coloured f) rs)) ≡ 2 * length rs + areas rs
unfolding encode areas
sent-length f [] = refl
sent-length f (r ∷ rs) =
    let a = length-append (coloured f r).dots (encode (map (coloured f) rs)) in
    let b = coloured-length f r in
    let c = sent-length f rs in
    omega (arith, a, b, c)
