-- An order without a number, and how many numbers an order can have.
use Rattle.std.proofs.Common.{◌≡◌, ℕ, suc, ◌≤◌, Bool, true, false, not, cond, eqb, filter, ltb, List, [], ◌∷◌, ◌++◌, length, sym, refl, ap, ◌∙◌, inl, inr, arith}
use Rattle.std.proofs.lemmas.Bool.{cases_eq, ne_eqb, ltb-false}
use Rattle.model.specs.Basics.{pick}
use Rattle.model.specs.Desk.{without}

symmetric : (a b : ℕ) → eqb a b ≡ eqb b a
symmetric a b = elim (cases_eq a b) [ inl e ↦ rw e refl | inr d ↦ rw (ne_eqb a b d, ne_eqb b a (λ e. d (sym e))) refl ]

pub without-filter : (n : ℕ) (xs : List ℕ) → filter (λ m. not (eqb m n)) xs ≡ without n xs
unfolding without
without-filter n [] = refl
without-filter n (x ∷ xs) = rw (symmetric x n) (by (eqb n x) _ _ (without-filter n xs))
  where
    by : (b : Bool) (ys zs : List ℕ) → ys ≡ zs → cond (not b) (x ∷ ys) ys ≡ pick b zs (x ∷ zs)
    by true ys zs e = e
    by false ys zs e = ap (λ t. x ∷ t) e

pub length_without : (n : ℕ) (xs : List ℕ) → length (without n xs) ≤ length xs
unfolding without
length_without n [] = omega arith
length_without n (x ∷ xs) = by (eqb n x) (length_without n xs)
  where
    by : (b : Bool) → length (without n xs) ≤ length xs → length (pick b (without n xs) (x ∷ without n xs)) ≤ suc (length xs)
    by true e = omega arith
    by false e = omega arith

-- an order that is no shorter without n has no n
pub without-same : (n : ℕ) (xs : List ℕ) → length xs ≤ length (without n xs) → without n xs ≡ xs
unfolding without
without-same n [] h = refl
without-same n (x ∷ xs) h = by (eqb n x) h (length_without n xs) (without-same n xs)
  where
    by : (b : Bool) → suc (length xs) ≤ length (pick b (without n xs) (x ∷ without n xs)) → length (without n xs) ≤ length xs → (length xs ≤ length (without n xs) → without n xs ≡ xs) →
        pick b (without n xs) (x ∷ without n xs) ≡ x ∷ xs
    by true h l e = absurd (omega arith)
    by false h l e = ap (λ t. x ∷ t) (e (omega arith))

-- n taken out and then put in front, where an order has room for `most` numbers
pub raised : (most n : ℕ) (o kept new : List ℕ) (r : Bool) → length o ≤ most → kept ≡ without n o → r ≡ ltb (length kept) most → new ≡ pick r (kept ++ n ∷ []) kept →
    new ≡ pick r (without n o ++ n ∷ []) o
raised most n o kept new true h e f g = g ∙ ap (λ l. l ++ n ∷ []) e
raised most n o kept new false h e f g =
    let l = ltb-false (length kept) most (sym f) in
    g ∙ e ∙ without-same n o (omega (arith, ap length e))
