-- Numbers with sign and without, both ways, for any half of the range.
use Rattle.std.proofs.Common.{◌≡◌, ℕ, suc, ◌+◌, ◌-◌, ◌<◌, ◌≤◌, ℤ, pos, negsuc, ◌-ℤ◌, neg_ℤ, ◌≤ℤ◌, ◌<ℤ◌, sym, refl, ap, ◌∙◌, subst, inl, inr, arith}
use Rattle.std.proofs.lemmas.Int.{ints}
use Rattle.std.proofs.lemmas.Bool.{cases_lt}
use Rattle.protocol.specs.Fields.{signed, unsigned}
use Rattle.protocol.proofs.Digits.{signed_low, signed_high, unsigned-below, unsigned-above}

-- the number that stands for z, in the range of twice h
pub stands-for : (h : ℕ) (z : ℤ) → neg_ℤ (pos h) ≤ℤ z → z <ℤ pos h → (unsigned h z < h + h) × (signed h (unsigned h z) ≡ z)
stands-for h (pos n) a b =
    let l : n < h = omega (arith, ints) in
    let u = unsigned-above h (pos n) n (omega (arith, ints)) refl in
    (omega arith, ap (signed h) (sym u) ∙ sym (signed_low h n (pos n) l refl))
stands-for h (negsuc m) a b =
    let l : suc m ≤ h = omega (arith, ints) in
    let n = h + h - suc m in
    let u = unsigned-below h (negsuc m) n (omega (arith, ints)) (omega (arith, ints)) in
    (omega arith, ap (signed h) (sym u) ∙ sym (signed_high h n (negsuc m) (omega arith) (omega (arith, ints))))

pub stood-for : (h n : ℕ) → n < h + h → (unsigned h (signed h n) ≡ n) × (neg_ℤ (pos h) ≤ℤ signed h n) × (signed h n <ℤ pos h)
stood-for h n l =
    elim (cases_lt n h) [
      | inl a ↦
          (let s = signed_low h n (pos n) a refl in
          let P : ℤ → Type 0 = λ z. (unsigned h z ≡ n) × (neg_ℤ (pos h) ≤ℤ z) × (z <ℤ pos h) in
          subst P s (sym (unsigned-above h (pos n) n (omega (arith, ints)) refl), omega (arith, ints), omega (arith, ints)))
      | inr b ↦
          (let z = pos n -ℤ pos (h + h) in
          let s = signed_high h n z b refl in
          let P : ℤ → Type 0 = λ z. (unsigned h z ≡ n) × (neg_ℤ (pos h) ≤ℤ z) × (z <ℤ pos h) in
          subst P s (sym (unsigned-below h z n (omega (arith, ints)) (omega (arith, ints))), omega (arith, ints), omega (arith, ints)))
    ]
