-- What the steps of a reader find.
use Rattle.std.specs.Prelude.{◌≡◌, ℕ, ◌+◌, ◌<◌, ◌≤◌, List, length, drop, Ok, Err, Result}
use Rattle.protocol.specs.Fields.{Field, Says, field, decode, number}
use Rattle.protocol.specs.Formats.{event_format, word_format}
use Rattle.protocol.specs.Meaning.{part, said, word_said, Had}
use Rattle.protocol.specs.Numbers.{kind_number, word_number}
use Rattle.protocol.specs.declared.kinds.Kind.{Kind}
use Rattle.protocol.specs.declared.kinds.WordKind.{WordKind}
use Rattle.protocol.specs.declared.types.Patch.{Patch}
use Rattle.protocol.specs.declared.types.Part.{Part}
use Rattle.protocol.specs.declared.types.Fault.{Fault}
use Rattle.protocol.specs.declared.types.Event.{Event}
use Rattle.protocol.specs.declared.types.Word.{Word}
use Rattle.protocol.specs.declared.reader.Reader.{Reader}

-- what the next field says is answered, and the reader stands behind it; or the first byte in fault
abbrev pub Answers : (f : Field) → ℕ → List ℕ → ℕ → ℕ → ℕ → Result (Says f) Fault → Type 0
Answers f p bs k o to (Ok v) = field f p bs k o ≡ Ok (v, to)
Answers f p bs k o to (Err e) = field f p bs k o ≡ Err e.place

-- one step, where there are p programs
pub record Next (f : Field) (p : ℕ) (old new : Reader) (r : Result (Says f) Fault) : Type 0 where
  pub answers : Answers f p old.bytes.now old.start old.read new.read r
  pub bytes : new.bytes.now ≡ old.bytes.now
  pub start : new.start ≡ old.start

-- a row, by the part that it is
abbrev pub row_said : ℕ → List ℕ → Result Part Fault → Result (List ℕ) Fault
row_said w bs (Ok q) = Ok (part w bs q)
row_said w bs (Err e) = Err e

-- a box of a window's own dots: four numbers of two bytes
abbrev pub NextPatch : List ℕ → ℕ → Result Patch Fault → Type 0
NextPatch bs at (Ok q) =
    (at + 8 ≤ length bs) × (q.x ≡ number 2 (drop at bs)) × (q.y ≡ number 2 (drop (at + 2) bs)) × (q.wide ≡ number 2 (drop (at + 4) bs)) × (q.high ≡ number 2 (drop (at + 6) bs))
NextPatch bs at (Err e) = (length bs < at + 8) × (e.place ≡ length bs)

-- the event of this kind, whose fields come next, and all that it points to lies in the bytes
abbrev pub ReadEvent : Kind → ℕ → Reader → Result (Event × ℕ) Fault → Type 0
ReadEvent q p r result =
    (said r.bytes.now result ≡ decode (event_format (kind_number q)).fields (event_format (kind_number q)).says p r.bytes.now r.start r.read) × Had r.bytes.now result

-- and the word
abbrev pub ReadWord : WordKind → Reader → Result (Word × ℕ) Fault → Type 0
ReadWord q r result =
    word_said r.bytes.now result ≡ decode (word_format (word_number q)).fields (word_format (word_number q)).says 256 r.bytes.now r.start r.read
