-- Numbers in bytes as the library has them.
use Rattle.std.proofs.Common.{◌≡◌, ℕ, zero, suc, ◌+◌, ◌/◌, ◌%◌, ◌≤◌, true, false, List, [], ◌∷◌, take, ℤ, pos, negsuc, ◌+ℤ◌, nat_abs, ◌≤ℤ◌, ◌<ℤ◌, refl, ap, ◌∙◌, arith, w16, SFits, of_z}
use native.Mathlib.Nat.{div-div-eq-div-mul}
use lib.Signed.{lt_z}
use Rattle.std.proofs.lemmas.Int.{ints}
use Rattle.protocol.specs.Fields.{digits, unsigned}

-- all four bytes of a number
abbrev pub four : ℕ → List ℕ
four n = (n % 256) ∷ (n / 256 % 256) ∷ (n / 65536 % 256) ∷ (n / 16777216 % 256) ∷ []

three_down : (n : ℕ) → n / 256 / 256 / 256 ≡ n / 16777216
three_down n = ap (λ k. k / 256) (div-div-eq-div-mul n 256 256) ∙ div-div-eq-div-mul n 65536 256

pub take-four : (w n : ℕ) → w ≤ 4 → take w (four n) ≡ digits w n
take-four zero n h = refl
take-four (suc zero) n h = refl
take-four (suc (suc zero)) n h = refl
take-four (suc (suc (suc zero))) n h = rw (div-div-eq-div-mul n 256 256)
take-four (suc (suc (suc (suc zero)))) n h = rw (three_down n, div-div-eq-div-mul n 256 256)
take-four (suc (suc (suc (suc (suc w))))) n h = absurd (omega arith)

pub two_digits : (n : ℕ) → (n % 256) ∷ (n / 256 % 256) ∷ [] ≡ digits 2 n
two_digits n = refl

-- the two ways to lose a sign
pub unsigned-below : (h : ℕ) (z : ℤ) (n : ℕ) → z <ℤ pos 0 → pos n ≡ z +ℤ pos (h + h) → n ≡ unsigned h z
unfolding unsigned
unsigned-below h z n l e = let t : lt_z z (pos 0) ≡ true = grind (arith, ints) in rw t (ap nat_abs e)

pub unsigned-above : (h : ℕ) (z : ℤ) (n : ℕ) → pos 0 ≤ℤ z → pos n ≡ z → n ≡ unsigned h z
unfolding unsigned
unsigned-above h z n l e = let t : lt_z z (pos 0) ≡ false = grind (arith, ints) in rw t (ap nat_abs e)

-- the bits of a number with sign
pub unsigned-bits : (z : ℤ) → SFits w16 z → of_z w16 z ≡ unsigned 32768 z
unsigned-bits (pos n) f = unsigned-above 32768 (pos n) n (omega (arith, ints)) refl
unsigned-bits (negsuc n) f = unsigned-below 32768 (negsuc n) _ (omega (arith, ints)) (omega (arith, ints, f.sfits))
