-- Numbers in bytes.
use Rattle.std.proofs.Common.{◌≡◌, ℕ, suc, ◌+◌, ◌*◌, ◌<◌, ◌≤◌, true, false, List, [], ◌∷◌, length, get_or, drop, ℤ, pos, ◌+ℤ◌, ◌-ℤ◌, nat_abs, ◌≤ℤ◌, ◌<ℤ◌, refl, sym, ap, ◌∙◌, inl, inr, w16, w32, to_z, of_z, SFits, negsuc, arith}
use lib.Signed.{lt_z}
use Rattle.std.proofs.lemmas.Int.{ints, to_z_pos}
use Rattle.std.proofs.lemmas.Bool.{lt-ltb, le-ltb, cases_lt}
use Rattle.std.proofs.lemmas.List.{drop_more}
use Rattle.std.specs.Int.{from_le_bytes}
use Rattle.protocol.specs.Fields.{number, signed, unsigned}

-- a number of one byte more, by its first byte
pub number_more : (w : ℕ) (bs : List ℕ) (k : ℕ) → k < length bs → number (suc w) (drop k bs) ≡ get_or bs k 0 + 256 * number w (drop (k + 1) bs)
unfolding number
number_more w bs k h = rw (drop_more bs k 0 h)

pub number-none : (xs : List ℕ) → number 0 xs ≡ 0
unfolding number
number-none xs = refl

pub number_two : (bs : List ℕ) (k : ℕ) → k + 2 ≤ length bs → number 2 (drop k bs) ≡ get_or bs k 0 + 256 * get_or bs (k + 1) 0
number_two bs k h =
    let e = number_more 1 bs k (omega arith) in
    let f = number_more 0 bs (k + 1) (omega arith) in
    let n = number-none (drop (k + 1 + 1) bs) in
    omega arith

next : (w : ℕ) (bs : List ℕ) (k j : ℕ) → k < length bs → j ≡ k + 1 → number (suc w) (drop k bs) ≡ get_or bs k 0 + 256 * number w (drop j bs)
next w bs k j h e = number_more w bs k h ∙ ap (λ i. get_or bs k 0 + 256 * number w (drop i bs)) (sym e)

-- as the library reads four bytes
pub four_is : (bs : List ℕ) (k : ℕ) → k + 4 ≤ length bs → from_le_bytes w32 (get_or bs k 0 ∷ get_or bs (k + 1) 0 ∷ get_or bs (k + 2) 0 ∷ get_or bs (k + 3) 0 ∷ []) ≡ number 4 (drop k bs)
four_is bs k h =
    let e = next 3 bs k (k + 1) (omega arith) (omega arith) in
    let f = next 2 bs (k + 1) (k + 2) (omega arith) (omega arith) in
    let g = next 1 bs (k + 2) (k + 3) (omega arith) (omega arith) in
    let l = next 0 bs (k + 3) (k + 4) (omega arith) (omega arith) in
    let n = number-none (drop (k + 4) bs) in
    omega (arith, e, f, g, l, n)

-- the two halves of numbers with sign
pub signed_low : (h n : ℕ) (z : ℤ) → n < h → z ≡ pos n → z ≡ signed h n
unfolding signed
signed_low h n z l e = rw (lt-ltb n h l) e

pub signed_high : (h n : ℕ) (z : ℤ) → h ≤ n → z ≡ pos n -ℤ pos (h + h) → z ≡ signed h n
unfolding signed
signed_high h n z l e = rw (le-ltb n h l) e

-- the two ways to lose a sign
pub unsigned-below : (h : ℕ) (z : ℤ) (n : ℕ) → z <ℤ pos 0 → pos n ≡ z +ℤ pos (h + h) → n ≡ unsigned h z
unfolding unsigned
unsigned-below h z n l e = let t : lt_z z (pos 0) ≡ true = grind (arith, ints) in rw t (ap nat_abs e)

pub unsigned-above : (h : ℕ) (z : ℤ) (n : ℕ) → pos 0 ≤ℤ z → pos n ≡ z → n ≡ unsigned h z
unfolding unsigned
unsigned-above h z n l e = let t : lt_z z (pos 0) ≡ false = grind (arith, ints) in rw t (ap nat_abs e)

-- the library's signed reading of a number
pub near_is : (n : ℕ) → n < 65536 → to_z w16 n ≡ signed 32768 n
near_is n h =
    elim (cases_lt n 32768) [
      | inl a ↦ signed_low 32768 n _ a (to_z_pos w16 n a)
      | inr b ↦ signed_high 32768 n _ b (rw (le-ltb n 32768 b) (omega (arith, ints)))
    ]

pub far_is : (n : ℕ) → n < 4294967296 → to_z w32 n ≡ signed 2147483648 n
far_is n h =
    elim (cases_lt n 2147483648) [
      | inl a ↦ signed_low 2147483648 n _ a (to_z_pos w32 n a)
      | inr b ↦ signed_high 2147483648 n _ b (rw (le-ltb n 2147483648 b) (omega (arith, ints)))
    ]

-- and its bits of a number with sign
pub unnear_is : (z : ℤ) → SFits w16 z → of_z w16 z ≡ unsigned 32768 z
unnear_is (pos n) f = unsigned-above 32768 (pos n) n (omega (arith, ints)) refl
unnear_is (negsuc n) f = unsigned-below 32768 (negsuc n) _ (omega (arith, ints)) (omega (arith, ints, f))

pub unfar_is : (z : ℤ) → SFits w32 z → of_z w32 z ≡ unsigned 2147483648 z
unfar_is (pos n) f = unsigned-above 2147483648 (pos n) n (omega (arith, ints)) refl
unfar_is (negsuc n) f = unsigned-below 2147483648 (negsuc n) _ (omega (arith, ints)) (omega (arith, ints, f))
