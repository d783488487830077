-- The bytes that the words of an event give are those of the event that they say.
use Rattle.std.proofs.Common.{◌≡◌, ℕ, zero, suc, ◌-◌, ◌%◌, ◌^◌, ◌<◌, ◌≤◌, Bool, true, false, ◌&&◌, eqb, ltb, leb, List, [], ◌∷◌, ◌++◌, map, length, take, drop, IfSome, Some, None, Option, refl, ap, ◌∙◌, append-nil, arith}
use Rattle.std.specs.Option.{option_map}
use Rattle.std.specs.Str.Parse.{digits_value}
use Rattle.std.proofs.lemmas.Bool.{leb-true, leb-false, and_parts}
use Rattle.model.specs.Basics.{pick}
use Rattle.model.specs.Desk as desk
use Rattle.protocol.specs.Fields as fields
use Rattle.protocol.specs.Fields.{Says, From, digits, unsigned, marked, spell, spelled, all_digits}
use Rattle.protocol.specs.Formats.{event_format, encode}
use Rattle.script.specs.declared.fields.Field.{Field}
use Rattle.script.specs.declared.fields.Field.TheVariants.{Program, Byte, Side, Colour, Near, Mark}
use Rattle.script.specs.declared.kinds.Kind.{Kind}
use Rattle.script.specs.declared.kinds.Kind.TheVariants as kinds
use Rattle.script.specs.Numerals as numerals
use Rattle.script.specs.Numerals.{begins_hex, in_base, plain_number, signed_number}
use Rattle.script.specs.Putting.{near_bytes}
use Rattle.script.specs.Sentences.{and_then, mark_number, each_number, row_numbers, first_field, no_more, fields_say, kind_says}
use Rattle.script.specs.Tables.{number_of, fields_of, row_of, word_bytes, before, each_bytes, all_bytes, row_bytes, rest_bytes, event_bytes}
use Rattle.script.proofs.Going.{before-nil, before-before}

-- The bytes of fields that words say.
abbrev say-bytes : List fields.Field → List (List ℕ) → Option (List ℕ)
say-bytes [] ws = no_more [] ws
say-bytes (f ∷ fs) ws = and_then (first_field f ws) (λ p. before (spell f p.0) (say-bytes fs p.1))

-- m makes events whose bytes g says
abbrev Agrees : (fs : List fields.Field) → From fs desk.Event → From fs (List ℕ) → Type 0
Agrees [] m g = encode m ≡ g
Agrees (f ∷ fs) m g = (v : Says f) → Agrees fs (m v) (g v)

mapped-before : (g : List ℕ → List ℕ) (b : List ℕ) (o : Option (List ℕ)) → option_map (λ rest. g (b ++ rest)) o ≡ option_map g (before b o)
mapped-before g b None = refl
mapped-before g b (Some x) = refl

said-bytes : (fs : List fields.Field) (m : From fs desk.Event) (g : List ℕ → List ℕ) → Agrees fs m (spelled fs g) → (ws : List (List ℕ))
    → option_map encode (fields_say fs m ws) ≡ option_map g (say-bytes fs ws)
said-bytes [] m g a [] = ap (λ x. Some x) a
said-bytes [] m g a (w ∷ ws) = refl
said-bytes (f ∷ fs) m g a ws = by (first_field f ws) (λ v ws. said-bytes fs (m v) (λ rest. g (spell f v ++ rest)) (a v) ws)
  where
    by : (o : Option (Says f × List (List ℕ))) → ((v : Says f) (ws : List (List ℕ)) → option_map encode (fields_say fs (m v) ws) ≡ option_map (λ rest. g (spell f v ++ rest)) (say-bytes fs ws))
        → option_map encode (and_then o (λ p. fields_say fs (m p.0) p.1)) ≡ option_map g (and_then o (λ p. before (spell f p.0) (say-bytes fs p.1)))
    by None h = refl
    by (Some p) h = h p.0 p.1 ∙ mapped-before g (spell f p.0) (say-bytes fs p.1)

-- The fields of the text are those of the format.
abbrev field_of : Field → fields.Field
field_of Program = fields.program
field_of Byte = fields.byte
field_of Side = fields.plain 2
field_of Colour = fields.plain 4
field_of Near = fields.near
field_of Mark = fields.mark

abbrev row-width : Field → ℕ
row-width Program = 1
row-width Byte = 1
row-width Side = 2
row-width Colour = 4
row-width Near = 2
row-width Mark = 1

abbrev row-fields : Option Field → List fields.Field
row-fields None = []
row-fields (Some f) = fields.row (row-width f) ∷ []

same-fields : (k : Kind) → (event_format (number_of k)).fields ≡ map field_of (fields_of k) ++ row-fields (row_of k)
same-fields kinds.Make = refl
same-fields kinds.Close = refl
same-fields kinds.Move = refl
same-fields kinds.Raise = refl
same-fields kinds.Show = refl
same-fields kinds.Fill = refl
same-fields kinds.Put = refl
same-fields kinds.Copy = refl
same-fields kinds.Offer = refl
same-fields kinds.Point = refl
same-fields kinds.Press = refl
same-fields kinds.Key = refl
same-fields kinds.Paste = refl

same_bytes : (k : Kind) → Agrees (event_format (number_of k)).fields (event_format (number_of k)).says (spelled (event_format (number_of k)).fields (λ rest. number_of k ∷ rest))
same_bytes kinds.Make = λ a b c d e. refl
same_bytes kinds.Close = λ a b. refl
same_bytes kinds.Move = λ a b c d. refl
same_bytes kinds.Raise = λ a b. refl
same_bytes kinds.Show = λ a b c. refl
same_bytes kinds.Fill = λ a b c d e f g. refl
same_bytes kinds.Put = λ a b c d e. refl
same_bytes kinds.Copy = λ a b c d e f g h. refl
same_bytes kinds.Offer = λ a b. refl
same_bytes kinds.Point = λ a b. refl
same_bytes kinds.Press = λ a. refl
same_bytes kinds.Key = λ a. refl
same_bytes kinds.Paste = refl

-- A number that is read is at most the largest.
found-pick : {A : Type 0} (P : A → Type 0) (b : Bool) (x y : Option A) → (b ≡ true → IfSome x P) → IfSome y P → IfSome (pick b x y) P
found-pick P true x y h g = h refl
found-pick P false x y h g = g

base-bound : (base most : ℕ) (ds : List ℕ) → IfSome (in_base base most ds) (λ n. n ≤ most)
unfolding in_base
base-bound base most ds =
    found-pick (λ n. n ≤ most) (ltb 0 (length ds) && (numerals.all_digits base ds && leb (digits_value base ds) most)) (Some (digits_value base ds)) None
    (λ e. leb-true _ _ (and_parts (numerals.all_digits base ds) (leb (digits_value base ds) most) (and_parts (ltb 0 (length ds)) (numerals.all_digits base ds && leb (digits_value base ds) most) e).1).1) tt

plain-bound : (most : ℕ) (w : List ℕ) → IfSome (plain_number most w) (λ n. n ≤ most)
unfolding plain_number
plain-bound most w = found-pick (λ n. n ≤ most) (begins_hex w) (in_base 16 most (drop 2 w)) (in_base 10 most w) (λ _. base-bound 16 most (drop 2 w)) (base-bound 10 most w)

-- One word as a field.
module _ (ws : List (List ℕ)) (next : List (List ℕ) → Option (List ℕ)) where
  abbrev one : {A : Type 0} → (A → List ℕ) → Option A → Option (List ℕ)
  one {A} s o = and_then {A = A × List (List ℕ)} (option_map (λ v. (v, ws)) o) (λ p. before (s p.0) (next p.1))

  as_said : {A : Type 0} (s : A → List ℕ) (o : Option A) → one s o ≡ and_then (option_map s o) (λ bs. before bs (next ws))
  as_said s None = refl
  as_said s (Some v) = refl

  as_byte : (o : Option ℕ) → IfSome o (λ n. n ≤ 255) → one (λ v. v ∷ []) o ≡ and_then (option_map (digits 1) o) (λ bs. before bs (next ws))
  as_byte None h = refl
  as_byte (Some v) h = let e : v % 256 ≡ v = omega arith in rw e

  as-mark : (o : Option ℕ) → IfSome o (λ n. n ≤ 1) → one (λ b. marked b ∷ []) (option_map (λ n. eqb n 1) o) ≡ and_then (option_map (digits 1) o) (λ bs. before bs (next ws))
  as-mark None h = refl
  as-mark (Some zero) h = refl
  as-mark (Some (suc zero)) h = refl
  as-mark (Some (suc (suc n))) h = absurd (omega arith)

weaker-bound : (o : Option ℕ) (m n : ℕ) → m ≤ n → IfSome o (λ v. v ≤ m) → IfSome o (λ v. v ≤ n)
weaker-bound None m n l h = tt
weaker-bound (Some v) m n l h = omega arith

first-bytes : (f : Field) (w : List ℕ) (ws : List (List ℕ)) (next : List (List ℕ) → Option (List ℕ))
    → and_then (first_field (field_of f) (w ∷ ws)) (λ p. before (spell (field_of f) p.0) (next p.1)) ≡ and_then (word_bytes f w) (λ bs. before bs (next ws))
unfolding near_bytes mark_number
first-bytes Program w ws next = as_byte ws next (plain_number 63 w) (weaker-bound _ 63 255 (omega arith) (plain-bound 63 w))
first-bytes Byte w ws next = as_byte ws next (plain_number 255 w) (plain-bound 255 w)
first-bytes Side w ws next = as_said ws next (digits 2) (plain_number 65535 w)
first-bytes Colour w ws next = as_said ws next (digits 4) (plain_number 4294967295 w)
first-bytes Near w ws next = as_said ws next (λ z. digits 2 (unsigned 32768 z)) (signed_number w)
first-bytes Mark w ws next = as-mark ws next (plain_number 1 w) (plain-bound 1 w)

no_word : (f : Field) (next : Says (field_of f) × List (List ℕ) → Option (List ℕ)) → and_then (first_field (field_of f) []) next ≡ None
no_word Program next = refl
no_word Byte next = refl
no_word Side next = refl
no_word Colour next = refl
no_word Near next = refl
no_word Mark next = refl

-- Several words, and what follows them.
joined : (o : Option (List ℕ)) (x t : Option (List ℕ))
    → and_then o (λ a. before a (and_then x (λ b. before b t))) ≡ and_then (and_then o (λ a. before a x)) (λ b. before b t)
joined None x t = refl
joined (Some a) None t = refl
joined (Some a) (Some b) t = before-before a b t

words-enough : (fs : List Field) (tail : List fields.Field) (ws : List (List ℕ)) → length fs ≤ length ws
    → say-bytes (map field_of fs ++ tail) ws ≡ and_then (each_bytes fs (take (length fs) ws)) (λ bs. before bs (say-bytes tail (drop (length fs) ws)))
words-enough [] tail ws h = before-nil (say-bytes tail ws)
words-enough (f ∷ fs) tail [] h = absurd (omega arith)
words-enough (f ∷ fs) tail (w ∷ ws) h =
    first-bytes f w ws (say-bytes (map field_of fs ++ tail))
    ∙ ap (λ o. and_then (word_bytes f w) (λ bs. before bs o)) (words-enough fs tail ws (omega arith))
    ∙ joined (word_bytes f w) (each_bytes fs (take (length fs) ws)) (say-bytes tail (drop (length fs) ws))

words-few : (fs : List Field) (tail : List fields.Field) (ws : List (List ℕ)) → length ws < length fs → say-bytes (map field_of fs ++ tail) ws ≡ None
words-few [] tail ws h = absurd (omega arith)
words-few (f ∷ fs) tail [] h = no_word f (λ p. before (spell (field_of f) p.0) (say-bytes (map field_of fs ++ tail) p.1))
words-few (f ∷ fs) tail (w ∷ ws) h =
    first-bytes f w ws (say-bytes (map field_of fs ++ tail))
    ∙ ap (λ o. and_then (word_bytes f w) (λ bs. before bs o)) (words-few fs tail ws (omega arith)) ∙ nothing (word_bytes f w)
  where
    nothing : (o : Option (List ℕ)) → and_then o (λ bs. before bs None) ≡ None
    nothing None = refl
    nothing (Some x) = refl

-- A row: each word gives the bytes of a number, and there are as many numbers as words.
abbrev RowWord : Field → ℕ → Type 0
RowWord f most = (w : List ℕ) → word_bytes f w ≡ option_map (digits (row-width f)) (plain_number most w)

all_said : (f : Field) (most : ℕ) → RowWord f most → (ws : List (List ℕ)) → all_bytes f ws ≡ option_map (all_digits (row-width f)) (each_number most ws)
unfolding all_digits
all_said f most h [] = refl
all_said f most h (w ∷ ws) = rw (h w, all_said f most h ws) (by (plain_number most w) (each_number most ws))
  where
    by : (o : Option ℕ) (x : Option (List ℕ))
        → and_then (option_map (digits (row-width f)) o) (λ bs. before bs (option_map (all_digits (row-width f)) x)) ≡ option_map (all_digits (row-width f)) (and_then o (λ v. option_map (λ vs. v ∷ vs) x))
    by None x = refl
    by (Some v) None = refl
    by (Some v) (Some vs) = refl

as_many : (most : ℕ) (ws : List (List ℕ)) → IfSome (each_number most ws) (λ vs. length vs ≡ length ws)
as_many most [] = refl
as_many most (w ∷ ws) = by (plain_number most w) (each_number most ws) (as_many most ws)
  where
    by : (o : Option ℕ) (x : Option (List ℕ)) → IfSome x (λ vs. length vs ≡ length ws) → IfSome (and_then o (λ v. option_map (λ vs. v ∷ vs) x)) (λ vs. length vs ≡ suc (length ws))
    by None x h = tt
    by (Some v) None h = tt
    by (Some v) (Some vs) h = ap (λ n. suc n) h

row-said : (f : Field) (most : ℕ) → RowWord f most → 256 ^ row-width f - 1 ≡ most → (ws : List (List ℕ)) → say-bytes (fields.row (row-width f) ∷ []) ws ≡ row_bytes f ws
unfolding row_numbers row_bytes
row-said f most h e ws = rw (e, all_said f most h ws) (by (ltb (length ws) 65536) (each_number most ws) (as_many most ws))
  where
    by : (t : Bool) (x : Option (List ℕ)) → IfSome x (λ vs. length vs ≡ length ws)
        → and_then {A = List ℕ × List (List ℕ)} (option_map (λ vs. (vs, [])) (pick t x None)) (λ p. before (digits 2 (length p.0) ++ all_digits (row-width f) p.0) (no_more [] p.1))
        ≡ pick t (before (digits 2 (length ws)) (option_map (all_digits (row-width f)) x)) None
    by false x g = refl
    by true None g = refl
    by true (Some vs) g = rw g (ap (λ l. Some l) (append-nil (digits 2 (length ws) ++ all_digits (row-width f) vs)))

rest-said : (k : Kind) (ws : List (List ℕ)) → say-bytes (row-fields (row_of k)) ws ≡ rest_bytes (row_of k) ws
rest-said kinds.Make ws = refl
rest-said kinds.Close ws = refl
rest-said kinds.Move ws = refl
rest-said kinds.Raise ws = refl
rest-said kinds.Show ws = refl
rest-said kinds.Fill ws = refl
rest-said kinds.Put ws = row-said Colour 4294967295 (λ w. refl) refl ws
rest-said kinds.Copy ws = refl
rest-said kinds.Offer ws = row-said Byte 255 (λ w. refl) refl ws
rest-said kinds.Point ws = refl
rest-said kinds.Press ws = refl
rest-said kinds.Key ws = refl
rest-said kinds.Paste ws = refl

-- The bytes are those of the event.
pub event-said : (k : Kind) (ws : List (List ℕ)) → option_map encode (kind_says (number_of k) ws) ≡ event_bytes k ws
unfolding event_bytes
event-said k ws =
    said-bytes (event_format (number_of k)).fields (event_format (number_of k)).says (λ rest. number_of k ∷ rest) (same_bytes k) ws
    ∙ ap (λ fs. option_map (λ rest. number_of k ∷ rest) (say-bytes fs ws)) (same-fields k)
    ∙ by (leb (length (fields_of k)) (length ws)) refl
  where
    by : (t : Bool) → leb (length (fields_of k)) (length ws) ≡ t → option_map (λ r. number_of k ∷ r) (say-bytes (map field_of (fields_of k) ++ row-fields (row_of k)) ws)
        ≡ pick t (before (number_of k ∷ []) (and_then (each_bytes (fields_of k) (take (length (fields_of k)) ws)) (λ bs. before bs (rest_bytes (row_of k) (drop (length (fields_of k)) ws))))) None
    by true e =
        ap (option_map (λ r. number_of k ∷ r)) (words-enough (fields_of k) (row-fields (row_of k)) ws (leb-true _ _ e)
        ∙ ap (λ o. and_then (each_bytes (fields_of k) (take (length (fields_of k)) ws)) (λ bs. before bs o)) (rest-said k (drop (length (fields_of k)) ws)))
    by false e = ap (option_map (λ r. number_of k ∷ r)) (words-few (fields_of k) (row-fields (row_of k)) ws (leb-false _ _ e))
