-- How long an order can be: each number below a limit at most once, and no other. `times` is any count of a number in a list.
use Rattle.std.proofs.Common.{◌≡◌, ℕ, zero, suc, ◌+◌, ◌<◌, ◌≤◌, Bool, true, false, eqb, List, [], ◌∷◌, ◌++◌, length, refl, ap, ◌∙◌, inl, inr, arith}
use Rattle.std.proofs.lemmas.Bool.{cases_eq, cases_Bool, eq-eqb, ne_eqb}
use Rattle.model.specs.Basics.{pick}
use Rattle.model.specs.Desk.{without}

module _ (times : ℕ → List ℕ → ℕ) (none : (n : ℕ) → times n [] ≡ 0) (more : (n m : ℕ) (ms : List ℕ) → times n (m ∷ ms) ≡ pick (eqb n m) 1 0 + times n ms) where
  -- an order is as long as without n, and as often as n stands in it
  pub length-by : (n : ℕ) (xs : List ℕ) → length xs ≡ length (without n xs) + times n xs
  unfolding without
  length-by n [] = omega (arith, none n)
  length-by n (x ∷ xs) = rw (more n x xs) (go (eqb n x) (length-by n xs))
    where
      go : (b : Bool) → length xs ≡ length (without n xs) + times n xs → suc (length xs) ≡ length (pick b (without n xs) (x ∷ without n xs)) + (pick b 1 0 + times n xs)
      go true e = omega arith
      go false e = omega arith

  -- so there is room in front for a number that stood in it
  pub room-for-raise : (most n : ℕ) (xs : List ℕ) → length xs ≤ most → times n xs ≡ 1 → length (without n xs) < most
  room-for-raise most n xs h e = omega (arith, length-by n xs)

  pub times-push : (n : ℕ) (xs : List ℕ) (m : ℕ) → times n (xs ++ m ∷ []) ≡ times n xs + pick (eqb n m) 1 0
  times-push n [] m = more n m [] ∙ omega (arith, none n)
  times-push n (x ∷ xs) m = more n x (xs ++ m ∷ []) ∙ omega (arith, times-push n xs m, more n x xs)

  pub times-other : (m n : ℕ) (xs : List ℕ) → (m ≡ n → ⊥) → times m (without n xs) ≡ times m xs
  unfolding without
  times-other m n [] ne = refl
  times-other m n (x ∷ xs) ne =
      elim (cases_eq n x) [
        | inl e ↦ let f : eqb m x ≡ false = ne_eqb m x (λ q. ne (omega arith)) in rw (eq-eqb n x e, more m x xs, f) (omega (arith, times-other m n xs ne))
        | inr d ↦ rw (ne_eqb n x d, more m x xs, more m x (without n xs)) (ap (λ t. pick (eqb m x) 1 0 + t) (times-other m n xs ne))
      ]

  pub times-same : (n : ℕ) (xs : List ℕ) → times n (without n xs) ≡ 0
  unfolding without
  times-same n [] = none n
  times-same n (x ∷ xs) =
      elim (cases_eq n x) [
        | inl e ↦ rw (eq-eqb n x e) (times-same n xs)
        | inr d ↦ rw (ne_eqb n x d, more n x (without n xs), ne_eqb n x d) (omega (arith, times-same n xs))
      ]

  once-without : (w : ℕ) (xs : List ℕ) → ((n : ℕ) → times n xs ≤ 1) → (n : ℕ) → times n (without w xs) ≤ 1
  once-without w xs a n = elim (cases_eq n w) [ inl e ↦ rw (e, times-same w xs) (omega arith) | inr ne ↦ rw (times-other n w xs ne) (a n) ]

  low-without : (w : ℕ) (xs : List ℕ) → ((n : ℕ) → suc w ≤ n → times n xs ≡ 0) → (n : ℕ) → w ≤ n → times n (without w xs) ≡ 0
  low-without w xs b n h = elim (cases_eq n w) [ inl e ↦ rw e (times-same w xs) | inr ne ↦ times-other n w xs ne ∙ b n (omega arith) ]

  -- each number below w at most once, and no other: at most w of them
  pub few : (w : ℕ) (xs : List ℕ) → ((n : ℕ) → times n xs ≤ 1) → ((n : ℕ) → w ≤ n → times n xs ≡ 0) → length xs ≤ w
  few zero [] a b = omega arith
  few zero (x ∷ xs) a b = let z = rw (more x x xs, eq-eqb x x refl) at (b x (omega arith)) in absurd (omega arith)
  few (suc w) xs a b = let r = few w (without w xs) (once-without w xs a) (low-without w xs b) in omega (arith, length-by w xs, a w)

  -- and one of them not at all: fewer
  pub fewer : (w k : ℕ) (xs : List ℕ) → ((n : ℕ) → times n xs ≤ 1) → ((n : ℕ) → w ≤ n → times n xs ≡ 0) → k < w → times k xs ≡ 0 → length xs < w
  fewer zero k xs a b h z = absurd (omega arith)
  fewer (suc w) k xs a b h z =
      elim (cases_eq k w) [
        | inl e ↦ let r = few w xs a (all e) in omega arith
        | inr ne ↦ let r = fewer w k (without w xs) (once-without w xs a) (low-without w xs b) (omega arith) (times-other k w xs ne ∙ z) in omega (arith, length-by w xs, a w)
      ]
    where
      all : k ≡ w → (n : ℕ) → w ≤ n → times n xs ≡ 0
      all q n l = elim (cases_eq n w) [ inl e ↦ rw (e, ← q) z | inr ne ↦ b n (omega arith) ]

  -- where each number that is there stands in the order once, and no other does, the order has room for one that is not there
  module _ (limit : ℕ) (order : List ℕ) (there : ℕ → Bool) (once : (n : ℕ) → times n order ≡ pick (there n) 1 0) (low : (n : ℕ) → there n ≡ true → n < limit) where
    most-once : (n : ℕ) → times n order ≤ 1
    most-once n = elim (cases_Bool (there n)) [ inl e ↦ omega (arith, once n ∙ ap (λ b. pick b 1 0) e) | inr e ↦ omega (arith, once n ∙ ap (λ b. pick b 1 0) e) ]

    none-past : (n : ℕ) → limit ≤ n → times n order ≡ 0
    none-past n l = elim (cases_Bool (there n)) [ inl e ↦ absurd (omega (arith, low n e)) | inr e ↦ once n ∙ ap (λ b. pick b 1 0) e ]

    pub room-for-one : (k : ℕ) → k < limit → there k ≡ false → length order < limit
    room-for-one k h e = fewer limit k order most-once none-past h (once k ∙ ap (λ b. pick b 1 0) e)
