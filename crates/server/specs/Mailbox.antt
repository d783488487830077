-- Rows of words: what they say, and what of it is told to one program.
use Rattle.std.specs.Prelude.{◌≡◌, ℕ, zero, suc, ◌<◌, ◌≤◌, List, [], ◌∷◌, length, Some, None, Ok, Err, Option, Result, ◌==◌, nat_lt}
use Rattle.model.specs.Basics.{pick}
use Rattle.model.specs.Desk as desk
use Rattle.protocol.specs.Added.{Added}
use Rattle.protocol.specs.Fields.{Found}
use Rattle.protocol.specs.Formats.{read_told}
use Rattle.protocol.specs.Meaning.{word_meaning}
use Rattle.protocol.specs.declared.types.Fault as protocol
use Rattle.protocol.specs.declared.types.Word.{Word}
use Rattle.server.specs.declared.mailbox.Stop.{Stop}
use Rattle.server.specs.declared.mailbox.Stop.TheVariants.{Fault, Short}
use Rattle.server.specs.Told.{told_bytes}

-- of what is told, that to one program
unfoldable pub own : ℕ → List (ℕ × desk.Word) → List (ℕ × desk.Word)
own c [] = []
own c (m ∷ ms) = pick (m.0 == c) (m ∷ own c ms) (own c ms)

-- what is found at a byte, and where it ends; none at the end of the row; or the first byte in fault
abbrev pub Next : Type 0 → Type 0
Next A = Result (Option (A × ℕ)) ℕ

abbrev pub one_more : {A : Type 0} → Found A → Next A
one_more (Ok r) = Ok (Some r)
one_more (Err j) = Err j

-- the word at the byte k, with the program that is told
abbrev pub next_told : List ℕ → ℕ → Next (ℕ × desk.Word)
next_told bs k = pick (nat_lt k (length bs)) (one_more (read_told bs k)) (Ok None)

-- all that is found one after another, from the byte k on to the row's end. Nothing is shorter than a byte: f turns are enough if no more bytes are left
abbrev pub before : {A : Type 0} → A → Result (List A) ℕ → Result (List A) ℕ
before a (Ok all) = Ok (a ∷ all)
before a (Err j) = Err j

abbrev pub and_on : {A : Type 0} → Next A → (ℕ → Result (List A) ℕ) → Result (List A) ℕ
and_on (Ok None) rest = Ok []
and_on (Ok (Some r)) rest = before r.0 (rest r.1)
and_on (Err j) rest = Err j

unfoldable pub each : {A : Type 0} → (ℕ → Next A) → ℕ → ℕ → Result (List A) ℕ
each next zero k = Ok []
each next (suc f) k = and_on (next k) (λ to. each next f to)

-- THE WORDS OF A ROW, or its first byte in fault
unfoldable pub words_in : List ℕ → Result (List (ℕ × desk.Word)) ℕ
words_in bs = each (next_told bs) (length bs) 0

-- the words that the row bs tells the program c have n bytes
pub record OwnSize (c : ℕ) (bs : List ℕ) (n : ℕ) : Type 0 where
  pub all : List (ℕ × desk.Word)
  pub said : words_in bs ≡ Ok all
  pub size : n ≡ length (told_bytes (own c all))

-- and a row of so many bytes holds them
pub record OwnFits (c : ℕ) (bs : List ℕ) (room : ℕ) : Type 0 where
  pub n : ℕ
  pub size : OwnSize c bs n
  pub fits : n ≤ room

-- the first byte of the row bs that is in fault
pub record FaultyAt (bs : List ℕ) (place : ℕ) : Type 0 where
  pub said : words_in bs ≡ Err place
  pub within : place ≤ length bs
  pub low : place < 4294967296

abbrev pub Measured : ℕ → List ℕ → Result ℕ protocol.Fault → Type 0
Measured c bs (Ok n) = OwnSize c bs n
Measured c bs (Err e) = FaultyAt bs e.place

-- The number and value of a refusal, numbered as those of a call: 2 and how many bytes the row needs, 3 and the first byte in fault.
abbrev pub stopped : Stop → ℕ × ℕ
stopped (Fault place) = (3, place)
stopped (Short needs) = (2, needs)

-- Taking the words of the program c from the row bs, into a row that held `old` and then holds `new`:

-- they are written from its first byte on, n bytes, and what stands behind is as it was
pub record Took (c : ℕ) (bs old new : List ℕ) (n : ℕ) : Type 0 where
  pub all : List (ℕ × desk.Word)
  pub said : words_in bs ≡ Ok all
  pub written : Added 0 n (told_bytes (own c all)) old new

-- bs is no row of words: the first byte in fault is told, and nothing is written
pub record Faulty (bs old new : List ℕ) (s : ℕ × ℕ) : Type 0 where
  pub number : s.0 ≡ 3
  pub fault : FaultyAt bs s.1
  pub unchanged : new ≡ old

-- the words have more bytes than the row: how many is told, and nothing is written
pub record TooShort (c : ℕ) (bs old new : List ℕ) (s : ℕ × ℕ) : Type 0 where
  pub number : s.0 ≡ 2
  pub needs : OwnSize c bs s.1
  pub more : length old < s.1
  pub unchanged : new ≡ old

abbrev pub Taken : ℕ → List ℕ → List ℕ → List ℕ → Result ℕ Stop → Type 0
Taken c bs old new (Ok n) = Took c bs old new n
Taken c bs old new (Err (Fault place)) = Faulty bs old new (stopped (Fault place))
Taken c bs old new (Err (Short needs)) = TooShort c bs old new (stopped (Short needs))

-- One word after another, for the program that they are told to.

-- a word without the program
abbrev pub word_of : Next (ℕ × desk.Word) → Next desk.Word
word_of (Ok None) = Ok None
word_of (Ok (Some r)) = Ok (Some (r.0.1, r.1))
word_of (Err j) = Err j

abbrev pub next_word : List ℕ → ℕ → Next desk.Word
next_word bs k = word_of (next_told bs k)

-- what a reader of the row bs answers, where a refusal is by number and value
abbrev pub next_said : List ℕ → Result (Option (Word × ℕ)) Stop → Result (Option (desk.Word × ℕ)) (ℕ × ℕ)
next_said bs (Ok None) = Ok None
next_said bs (Ok (Some r)) = Ok (Some (word_meaning bs r.0, r.1))
next_said bs (Err s) = Err (stopped s)

-- a word ends behind its place and within the row; a fault is within it, and fits 32 bits
abbrev pub NextEnds : List ℕ → ℕ → Result (Option (Word × ℕ)) Stop → Type 0
NextEnds bs k (Ok None) = length bs ≤ k
NextEnds bs k (Ok (Some r)) = (k < r.1) × (r.1 ≤ length bs)
NextEnds bs k (Err (Fault place)) = (place ≤ length bs) × (place < 4294967296)
NextEnds bs k (Err (Short needs)) = ⊥

-- a fault of a row, as a refusal
abbrev pub refused : {A : Type 0} → Result A ℕ → Result A (ℕ × ℕ)
refused (Ok a) = Ok a
refused (Err j) = Err (3, j)

-- all the words that are read so
unfoldable pub heard : List ℕ → Result (List desk.Word) ℕ
heard bs = each (next_word bs) (length bs) 0
