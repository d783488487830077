-- The sizes that words ask for.
use Rattle.std.specs.Prelude.{◌≡◌, ℕ, ◌<◌, ◌^◌, min, List, [], ◌∷◌}
use Rattle.std.specs.List.{AllZip}
use Rattle.std.specs.Str.Parse.{IsNumeral, digits_value, without_leading_plus}
use Rattle.layout.specs.declared.sizes.Sizes.{Sizes}

-- the word w writes the number n in decimal, by what the library's `parse` takes for 64 bits
abbrev pub Writes : List ℕ → ℕ → Type 0
Writes w n = IsNumeral 10 (without_leading_plus w) × (digits_value 10 (without_leading_plus w) < 2 ^ 64) × (n ≡ digits_value 10 (without_leading_plus w))

-- the size that a word asks for: its number, or 2 ^ 32 − 1 for a number that is larger
abbrev pub IsSize : List ℕ → ℕ → Type 0
IsSize w size = (n : ℕ) × Writes w n × (size ≡ min n 4294967295)

abbrev pub NoSize : List ℕ → Type 0
NoSize w = (size : ℕ) → IsSize w size → ⊥

-- sizes in the order of the words
abbrev pub sizes_list : Sizes → List ℕ
sizes_list z = z.wide ∷ z.high ∷ z.windows ∷ z.programs ∷ z.side ∷ z.dots ∷ []

-- there are not six words, or one is no number
abbrev pub NoSizes : List (List ℕ) → Type 0
NoSizes ws = (z : Sizes) → AllZip IsSize ws (sizes_list z) → ⊥
