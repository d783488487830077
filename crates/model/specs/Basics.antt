-- Small definitions that every layer shares.
use Rattle.std.specs.Prelude.{ℕ, ◌+◌, Bool, true, false, ◌&&◌, nat_le, nat_lt}

-- a where b is true, else the other
abbrev pub pick : {A : Type 0} → Bool → A → A → A
pick b x y = elim b [ true ↦ x | false ↦ y ]

-- k is one of the n numbers from `from` on
abbrev pub in_run : ℕ → ℕ → ℕ → Bool
in_run from n k = nat_le from k && nat_lt k (from + n)

-- 1 where it is true
abbrev pub bit : Bool → ℕ
bit b = pick b 1 0

-- the dot i, j lies in the box of w by h dots whose upper left dot is x, y
unfoldable pub in_box : ℕ → ℕ → ℕ → ℕ → ℕ → ℕ → Bool
in_box x y w h i j = in_run x w i && in_run y h j
