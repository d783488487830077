-- Places with sign: a dot of a window counted from its upper left one, and edges on the screen.
use Rattle.std.proofs.Common.{◌≡◌, ℕ, true, T, ltb, leb, ℤ, pos, negsuc, ◌+ℤ◌, ◌-ℤ◌, ◌≤ℤ◌, sym, refl, subst, arith}
use lib.Dec.{leb-zero, leb-suc-zero}
use lib.Signed.{lt_z, le_z, mag, le_z_yes}
use Rattle.std.proofs.lemmas.Int.{ints}
use Rattle.std.proofs.lemmas.Bool.Decides.{nat_tests}
use Rattle.model.specs.Grid.{from_zero}

mag-pos : (z : ℤ) → pos 0 ≤ℤ z → pos (mag z) ≡ z
mag-pos (pos n) h = refl
mag-pos (negsuc n) h = absurd h.le

le_yes : (a b : ℤ) → le_z a b ≡ true → a ≤ℤ b
le_yes a b e = le_z_yes (subst T (sym e) tt)

pub from-left : (x : ℤ) (i : ℕ) → le_z x (pos i) ≡ true → pos (mag (pos i -ℤ x)) ≡ pos i -ℤ x
from-left x i e = let h = le_yes x (pos i) e in mag-pos (pos i -ℤ x) (omega (arith, ints))

pub left-of : (x : ℤ) (i a u : ℕ) → pos u ≡ pos i -ℤ x → le_z (x +ℤ pos a) (pos i) ≡ leb a u
left-of x i a u e = grind (arith, ints, nat_tests)

pub right_of : (x : ℤ) (i a u : ℕ) → pos u ≡ pos i -ℤ x → lt_z (pos i) (x +ℤ pos a) ≡ ltb u a
right_of x i a u e = grind (arith, ints, nat_tests)

pub from_le : (x : ℤ) (i : ℕ) → leb (from_zero x) i ≡ le_z x (pos i)
from_le (pos n) i = refl
from_le (negsuc n) i = leb-zero i

pub from-lt : (x : ℤ) (i : ℕ) → ltb i (from_zero x) ≡ lt_z (pos i) x
from-lt (pos n) i = refl
from-lt (negsuc n) i = leb-suc-zero i
