-- The fields of each kind of event as words, and the bytes that words say.
use Rattle.std.specs.Prelude.{ℕ, List, [], ◌∷◌, ◌++◌, length, take, drop, Some, None, Option, nat_le, nat_lt}
use Rattle.std.specs.Option.{option_map}
use Rattle.model.specs.Basics.{pick}
use Rattle.protocol.specs.Fields.{digits}
use Rattle.script.specs.declared.fields.Field.{Field}
use Rattle.script.specs.declared.fields.Field.TheVariants.{Program, Byte, Side, Colour, Near, Mark}
use Rattle.script.specs.declared.kinds.Kind.{Kind}
use Rattle.script.specs.declared.kinds.Kind.TheVariants as kinds
use Rattle.script.specs.Numerals.{plain_number}
use Rattle.script.specs.Putting.{near_bytes}
use Rattle.script.specs.Sentences.{and_then, no_more}

abbrev pub number_of : Kind → ℕ
number_of kinds.Make = 0
number_of kinds.Close = 1
number_of kinds.Move = 2
number_of kinds.Raise = 3
number_of kinds.Show = 4
number_of kinds.Fill = 5
number_of kinds.Put = 6
number_of kinds.Copy = 7
number_of kinds.Offer = 8
number_of kinds.Point = 9
number_of kinds.Press = 10
number_of kinds.Key = 11
number_of kinds.Paste = 12

-- the fields of one word each
abbrev pub fields_of : Kind → List Field
fields_of kinds.Make = Program ∷ Near ∷ Near ∷ Side ∷ Side ∷ []
fields_of kinds.Close = Program ∷ Byte ∷ []
fields_of kinds.Move = Program ∷ Byte ∷ Near ∷ Near ∷ []
fields_of kinds.Raise = Program ∷ Byte ∷ []
fields_of kinds.Show = Program ∷ Byte ∷ Mark ∷ []
fields_of kinds.Fill = Program ∷ Byte ∷ Side ∷ Side ∷ Side ∷ Side ∷ Colour ∷ []
fields_of kinds.Put = Program ∷ Byte ∷ Side ∷ Side ∷ []
fields_of kinds.Copy = Program ∷ Byte ∷ Side ∷ Side ∷ Side ∷ Side ∷ Side ∷ Side ∷ []
fields_of kinds.Offer = Program ∷ []
fields_of kinds.Point = Near ∷ Near ∷ []
fields_of kinds.Press = Mark ∷ []
fields_of kinds.Key = Colour ∷ []
fields_of kinds.Paste = []

-- what the row behind them has for its elements, if there is one
abbrev pub row_of : Kind → Option Field
row_of kinds.Make = None
row_of kinds.Close = None
row_of kinds.Move = None
row_of kinds.Raise = None
row_of kinds.Show = None
row_of kinds.Fill = None
row_of kinds.Put = Some Colour
row_of kinds.Copy = None
row_of kinds.Offer = Some Byte
row_of kinds.Point = None
row_of kinds.Press = None
row_of kinds.Key = None
row_of kinds.Paste = None

-- the bytes of what a word says as a field
abbrev pub word_bytes : Field → List ℕ → Option (List ℕ)
word_bytes Program w = option_map (digits 1) (plain_number 63 w)
word_bytes Byte w = option_map (digits 1) (plain_number 255 w)
word_bytes Side w = option_map (digits 2) (plain_number 65535 w)
word_bytes Colour w = option_map (digits 4) (plain_number 4294967295 w)
word_bytes Near w = near_bytes w
word_bytes Mark w = option_map (digits 1) (plain_number 1 w)

-- bytes in front of those that follow
abbrev pub before : List ℕ → Option (List ℕ) → Option (List ℕ)
before bs o = option_map (λ more. bs ++ more) o

-- the bytes of words, each as its field
abbrev pub each_bytes : List Field → List (List ℕ) → Option (List ℕ)
each_bytes [] ws = Some []
each_bytes (f ∷ fs) [] = Some []
each_bytes (f ∷ fs) (w ∷ ws) = and_then (word_bytes f w) (λ bs. before bs (each_bytes fs ws))

-- the bytes of words, all as the same field
abbrev pub all_bytes : Field → List (List ℕ) → Option (List ℕ)
all_bytes f [] = Some []
all_bytes f (w ∷ ws) = and_then (word_bytes f w) (λ bs. before bs (all_bytes f ws))

-- of a row: its count and then its elements
unfoldable pub row_bytes : Field → List (List ℕ) → Option (List ℕ)
row_bytes f ws = pick (nat_lt (length ws) 65536) (before (digits 2 (length ws)) (all_bytes f ws)) None

abbrev pub rest_bytes : Option Field → List (List ℕ) → Option (List ℕ)
rest_bytes None ws = no_more [] ws
rest_bytes (Some f) ws = row_bytes f ws

-- of an event: its kind, its fields, and its row or nothing
unfoldable pub event_bytes : Kind → List (List ℕ) → Option (List ℕ)
event_bytes k ws =
    pick (nat_le (length (fields_of k)) (length ws))
    (before (number_of k ∷ []) (and_then (each_bytes (fields_of k) (take (length (fields_of k)) ws)) (λ bs. before bs (rest_bytes (row_of k) (drop (length (fields_of k)) ws)))))
    None
