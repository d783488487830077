-- The numbers of the text: decimal, or hexadecimal behind 0x, with a minus sign where a field has one.
use Rattle.std.specs.Prelude.{ℕ, Bool, true, ◌&&◌, List, [], ◌∷◌, length, take, drop, ℤ, pos, neg_ℤ, Some, None, codes, Option, ◌==◌, nat_le, nat_lt, slice_index}
use Rattle.std.specs.Option.{option_map}
use Rattle.std.specs.Str.Parse.{digits_value}
use Rattle.std.specs.Char.{digit_value}
use Rattle.std.specs.Str.{bytes_eq}
use Rattle.model.specs.Basics.{pick}

-- each byte is a digit in this base
abbrev pub all_digits : ℕ → List ℕ → Bool
all_digits base [] = true
all_digits base (c ∷ cs) = nat_lt (digit_value c) base && all_digits base cs

-- the number that ds writes in this base: digits and nothing else, at least one, and a number of at most `most`
unfoldable pub in_base : ℕ → ℕ → List ℕ → Option ℕ
in_base base most ds = pick (nat_lt 0 (length ds) && (all_digits base ds && nat_le (digits_value base ds) most)) (Some (digits_value base ds)) None

abbrev pub begins_hex : List ℕ → Bool
begins_hex w = bytes_eq (take 2 w) (codes "0x")

-- the number without sign that the word w writes
unfoldable pub plain_number : ℕ → List ℕ → Option ℕ
plain_number most w = pick (begins_hex w) (in_base 16 most (drop 2 w)) (in_base 10 most w)

-- the number from −32768 to 32767 that the word w writes
unfoldable pub signed_number : List ℕ → Option ℤ
signed_number w =
    pick (slice_index w 0 == 45) (option_map (λ n. neg_ℤ (pos n)) (plain_number 32768 (drop 1 w))) (option_map (λ n. pos n) (plain_number 32767 w))
