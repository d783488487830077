-- What a line of words says: the fields of an event's format in their order, a word each, and of a row all the words that are left.
use Rattle.std.specs.Prelude.{ℕ, ◌-◌, ◌^◌, Bool, List, [], ◌∷◌, map, length, Some, None, Option, nat_eq, nat_lt}
use Rattle.std.specs.Borrow.{Bor}
use Rattle.std.specs.Option.{option_map}
use Rattle.model.specs.Basics.{pick}
use Rattle.model.specs.Desk as desk
use Rattle.protocol.specs.Fields.{Field, program, byte, plain, near, far, mark, only, row, Says, From}
use Rattle.protocol.specs.Formats.{event_format}
use Rattle.script.specs.Numerals.{plain_number, signed_number}

-- what the second makes of what the first found
abbrev pub and_then : {A B : Type 0} → Option A → (A → Option B) → Option B
and_then None g = None
and_then (Some x) g = g x

unfoldable pub mark_number : List ℕ → Option Bool
mark_number w = option_map (λ n. nat_eq n 1) (plain_number 1 w)

-- the numbers that the words write, if each writes one
abbrev pub each_number : ℕ → List (List ℕ) → Option (List ℕ)
each_number most [] = Some []
each_number most (w ∷ ws) = and_then (plain_number most w) (λ v. option_map (λ vs. v ∷ vs) (each_number most ws))

-- a row: its count has to fit two bytes
unfoldable pub row_numbers : ℕ → List (List ℕ) → Option (List ℕ)
row_numbers most ws = pick (nat_lt (length ws) 65536) (each_number most ws) None

-- what the first word says, and the words behind it
abbrev pub first_word : {A : Type 0} → (List ℕ → Option A) → List (List ℕ) → Option (A × List (List ℕ))
first_word tell [] = None
first_word tell (w ∷ ws) = option_map (λ v. (v, ws)) (tell w)

-- what a field says, and the words behind it; programs are numbered from 0 to 63
abbrev pub first_field : (f : Field) → List (List ℕ) → Option (Says f × List (List ℕ))
first_field program ws = first_word (plain_number 63) ws
first_field byte ws = first_word (plain_number 255) ws
first_field (plain n) ws = first_word (plain_number (256 ^ n - 1)) ws
first_field near ws = first_word signed_number ws
first_field far ws = None
first_field mark ws = first_word mark_number ws
first_field (only b) ws = None
first_field (row n) ws = option_map (λ vs. (vs, [])) (row_numbers (256 ^ n - 1) ws)

abbrev pub no_more : {A : Type 0} → A → List (List ℕ) → Option A
no_more x [] = Some x
no_more x (w ∷ ws) = None

-- what is made of the fields that the words say
abbrev pub fields_say : {A : Type 0} (fs : List Field) → From fs A → List (List ℕ) → Option A
fields_say [] m ws = no_more m ws
fields_say (f ∷ fs) m ws = and_then (first_field f ws) (λ p. fields_say fs (m p.0) p.1)

-- the event of this kind whose fields the words say
abbrev pub kind_says : ℕ → List (List ℕ) → Option desk.Event
kind_says q ws = fields_say (event_format q).fields (event_format q).says ws

-- words of the text by their bytes
abbrev pub texts : List (Bor (List ℕ)) → List (List ℕ)
texts ws = map (λ w. w.now) ws
