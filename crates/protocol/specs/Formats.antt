-- THE FORMATS of events and of words: a line for each kind, with its fields in their order.
use Rattle.std.specs.Prelude.{ℕ, ◌+◌, Bool, ◌&&◌, List, [], ◌∷◌, length, Ok, Err, nat_le, nat_lt, slice_index, slice_index_or}
use Rattle.model.specs.Basics.{pick}
use Rattle.model.specs.Desk.{Event, make, close, move, raise, show, fill, put, copy, offer, point, press, key, paste}
use Rattle.model.specs.Desk.{Word, no, done, made, at, pressed, typed, pasted}
use Rattle.protocol.specs.Fields.{Field, program, byte, plain, near, far, mark, only, row, From, Found, there, decode, spelled}

-- the fields behind the kind's byte, and what is said by them
pub record Format (A : Type 0) : Type 0 where
  pub fields : List Field
  pub says : From fields A

abbrev pub window : Field
window = byte

abbrev pub side : Field
side = plain 2

abbrev pub colour : Field
colour = plain 4

-- events, from kind 0 on
abbrev pub event_formats : List (Format Event)
event_formats =
    record { fields = program ∷ near ∷ near ∷ side ∷ side ∷ []; says = make } ∷
    record { fields = program ∷ window ∷ []; says = close } ∷
    record { fields = program ∷ window ∷ near ∷ near ∷ []; says = move } ∷
    record { fields = program ∷ window ∷ []; says = raise } ∷
    record { fields = program ∷ window ∷ mark ∷ []; says = show } ∷
    record { fields = program ∷ window ∷ side ∷ side ∷ side ∷ side ∷ colour ∷ []; says = fill } ∷
    record { fields = program ∷ window ∷ side ∷ side ∷ row 4 ∷ []; says = put } ∷
    record { fields = program ∷ window ∷ side ∷ side ∷ side ∷ side ∷ side ∷ side ∷ []; says = copy } ∷
    record { fields = program ∷ row 1 ∷ []; says = offer } ∷
    record { fields = near ∷ near ∷ []; says = point } ∷
    record { fields = mark ∷ []; says = press } ∷
    record { fields = plain 4 ∷ []; says = key } ∷
    record { fields = []; says = paste } ∷
    []

abbrev pub event_format : ℕ → Format Event
event_format q = slice_index_or event_formats q (record { fields = []; says = paste })

-- words, from kind 0 on; in front of the kind stands the program that is told
abbrev pub word_formats : List (Format Word)
word_formats =
    record { fields = only 255 ∷ []; says = λ _. no } ∷
    record { fields = only 255 ∷ []; says = λ _. done } ∷
    record { fields = window ∷ []; says = made } ∷
    record { fields = window ∷ far ∷ far ∷ []; says = at } ∷
    record { fields = window ∷ mark ∷ []; says = pressed } ∷
    record { fields = window ∷ plain 4 ∷ []; says = typed } ∷
    record { fields = window ∷ row 1 ∷ []; says = pasted } ∷
    []

abbrev pub word_format : ℕ → Format Word
word_format q = slice_index_or word_formats q (record { fields = only 255 ∷ []; says = λ _. no })

-- An event in bytes: its kind and then its fields.
abbrev pub line : (q : ℕ) → From (event_format q).fields (List ℕ)
line q = spelled (event_format q).fields (λ rest. q ∷ rest)

abbrev pub encode : Event → List ℕ
encode (make c x y w h) = line 0 c x y w h
encode (close c n) = line 1 c n
encode (move c n x y) = line 2 c n x y
encode (raise c n) = line 3 c n
encode (show c n b) = line 4 c n b
encode (fill c n x y w h q) = line 5 c n x y w h q
encode (put c n x y l) = line 6 c n x y l
encode (copy c n x y w h a b) = line 7 c n x y w h a b
encode (offer c l) = line 8 c l
encode (point x y) = line 9 x y
encode (press b) = line 10 b
encode (key k) = line 11 k
encode paste = line 12

-- The event at the byte k of a row, and where it ends; or the first byte in fault.
-- `built` says which kinds there are, and p how many programs.
abbrev pub decode_kind : ℕ → ℕ → List ℕ → ℕ → Found Event
decode_kind q p bs k = decode (event_format q).fields (event_format q).says p bs k 1

abbrev pub decode_event : (ℕ → Bool) → ℕ → List ℕ → ℕ → Found Event
decode_event built p bs k = there bs (k + 1) (pick (nat_lt (slice_index bs k) 13 && built (slice_index bs k)) (decode_kind (slice_index bs k) p bs k) (Err k))

-- the same of a whole call, which is refused at byte 2 ^ 32 − 1 if it has 2 ^ 32 bytes or more
abbrev pub read_event : (ℕ → Bool) → ℕ → List ℕ → ℕ → Found Event
read_event built p bs k = pick (nat_le 4294967296 (length bs)) (Err 4294967295) (decode_event built p bs k)

-- A word in bytes: the program, the word's kind and its fields.
abbrev pub word_line : ℕ → (q : ℕ) → From (word_format q).fields (List ℕ)
word_line c q = spelled (word_format q).fields (λ rest. c ∷ q ∷ rest)

abbrev pub encode_word : ℕ → Word → List ℕ
encode_word c no = word_line c 0 tt
encode_word c done = word_line c 1 tt
encode_word c (made n) = word_line c 2 n
encode_word c (at n x y) = word_line c 3 n x y
encode_word c (pressed n b) = word_line c 4 n b
encode_word c (typed n k) = word_line c 5 n k
encode_word c (pasted n l) = word_line c 6 n l

-- The word at the byte k of a row, with the program that is told, and where it ends; or the first byte in fault.
-- (No field of a word is tested against the number of programs.)
abbrev pub decode_word_kind : ℕ → List ℕ → ℕ → Found Word
decode_word_kind q bs k = decode (word_format q).fields (word_format q).says 256 bs k 2

abbrev pub told : ℕ → Found Word → Found (ℕ × Word)
told c (Ok r) = Ok ((c, r.0), r.1)
told c (Err e) = Err e

abbrev pub decode_word : List ℕ → ℕ → Found (ℕ × Word)
decode_word bs k =
    there bs (k + 2) (pick (nat_lt (slice_index bs (k + 1)) 7) (told (slice_index bs k) (decode_word_kind (slice_index bs (k + 1)) bs k)) (Err (k + 1)))

-- the same of a row that is shorter than a call may be
abbrev pub read_told : List ℕ → ℕ → Found (ℕ × Word)
read_told bs k = pick (nat_le 4294967296 (length bs)) (Err 4294967295) (decode_word bs k)
