-- A run of elements in a slice, seen from one place.
use Rattle.std.proofs.Common.{◌≡◌, ℕ, ◌+◌, ◌-◌, ◌*◌, ◌<◌, ◌≤◌, true, false, ◌&&◌, ◌||◌, eqb, ◌⊎◌, List, length, get_or, sym, refl, ◌∙◌, inl, inr, add-mul, arith, rules}
use borrow.Rule.Slice.PartMut.{put_mid}
use Rattle.std.proofs.lemmas.List.{places}
use Rattle.std.proofs.lemmas.Bool.{cases_lt, cases_order, eq-eqb, ne_eqb, and_left}
use Rattle.std.proofs.lemmas.Nat.{mul-le}
use Rattle.std.proofs.lemmas.Bool.Decides.{nat_tests}
use Rattle.model.specs.Basics.{in_run}
use Rattle.pixels.specs.Pictures.{place}
use Rattle.pixels.specs.Runs.{Changed}

pub in_run-yes : (from n k : ℕ) → from ≤ k → k < from + n → in_run from n k ≡ true
in_run-yes from n k h l = grind (arith, nat_tests)

pub in_run-below : (from n k : ℕ) → k < from → in_run from n k ≡ false
in_run-below from n k h = grind (arith, nat_tests)

pub in_run-above : (from n k : ℕ) → from + n ≤ k → in_run from n k ≡ false
in_run-above from n k h = grind (arith, nat_tests)

pub in_run-apart : (from n k lo hi : ℕ) → lo ≤ from → from + n ≤ hi → (k < lo) ⊎ (hi ≤ k) → in_run from n k ≡ false
in_run-apart from n k lo hi a b o = grind (arith, nat_tests)

pub in_run-parts : (from n k : ℕ) → in_run from n k ≡ true → (from ≤ k) × (k < from + n)
in_run-parts from n k e = (grind (arith, nat_tests), grind (arith, nat_tests))

-- a run written as a part of its own
pub changed-part : (a n m : ℕ) (f : ℕ → ℕ) (xs ys : List ℕ) → a + n ≤ length xs → length ys ≡ n → m ≡ n →
    ((k : ℕ) → k < n → get_or ys k 0 ≡ f (a + k)) → Changed a n f xs (put_mid a m xs ys)
changed-part a n m f xs ys h l e g =
    record {
      places = λ k. elim (cases_lt k a) [
        | inl p ↦ rw (in_run-below a n k p) (search (rules, places))
        | inr p ↦ elim (cases_lt k (a + n)) [
          | inl q ↦ rw (in_run-yes a n k p q) (inside k p q)
          | inr q ↦ rw (in_run-above a n k q) (search (rules, places))
        ]
      ];
      len = search (rules, places);
    }
  where
    read : (k : ℕ) → a ≤ k → k < a + n → get_or (put_mid a m xs ys) k 0 ≡ get_or ys (k - a) 0
    read k p q = search (rules, places)

    inside : (k : ℕ) → a ≤ k → k < a + n → get_or (put_mid a m xs ys) k 0 ≡ f k
    inside k p q =
        let z : a + (k - a) ≡ k = omega arith in
        read k p q ∙ rw z at (g (k - a) (omega arith))

-- rows r and j of s dots each: one begins where the other ends, or after it
pub row-after : (j r s : ℕ) → j < r → j * s + s ≤ r * s
row-after j r s h = omega (arith, mul-le (j + 1) s r s (omega arith) (omega arith), add-mul j 1 s)

-- a run of dots in row r, seen from the dot i, j
pub row-hit : (at s x w r i j : ℕ) → i < s → x + w ≤ s → in_run (place at s x r) w (place at s i j) ≡ (eqb j r && in_run x w i)
row-hit at s x w r i j h k =
    elim (cases_order j r) [
      | inl e ↦ rw (e, eq-eqb r r refl) (grind (arith, nat_tests))
      | inr o ↦ elim o [
        | inl l ↦ let a = row-after j r s l in in_run-below (place at s x r) w (place at s i j) (omega arith) ∙ sym (and_left _ _ (ne_eqb j r (λ q. omega arith)))
        | inr l ↦ let a = row-after r j s l in in_run-above (place at s x r) w (place at s i j) (omega arith) ∙ sym (and_left _ _ (ne_eqb j r (λ q. omega arith)))
      ]
    ]

-- a run with one more at its end
pub run-next : (b r j : ℕ) → in_run b (r + 1) j ≡ (eqb j (b + r) || in_run b r j)
run-next b r j = grind (arith, nat_tests)
