-- What is read is what was written, and only that: the theorems about events and words in bytes.
use Rattle.std.specs.Prelude.{◌≡◌, ℕ, suc, ◌+◌, ◌-◌, ◌<◌, ◌≤◌, Bool, true, List, [], ◌∷◌, ◌++◌, length, take, drop, ℤ, pos, neg_ℤ, ◌≤ℤ◌, Ok, Err, slice_index, slice_range}
use Rattle.model.specs.Desk.{Event, make, close, move, raise, show, fill, put, copy, offer, point, press, key, paste, kind}
use Rattle.model.specs.Desk.{Word, no, done, made, at, pressed, typed, pasted}
use Rattle.protocol.specs.Fields.{Bytes}
use Rattle.protocol.specs.Formats.{encode, read_event, encode_word, read_told}

-- a number with sign that two bytes carry, and one that four do
unfoldable pub Near : ℤ → Type 0
Near a = (neg_ℤ (pos 32768) ≤ℤ a) × (a ≤ℤ pos 32767)

unfoldable pub Far : ℤ → Type 0
Far a = (neg_ℤ (pos 2147483648) ≤ℤ a) × (a ≤ℤ pos 2147483647)

-- a row that can be counted in two bytes, of numbers below n
unfoldable pub Row : List ℕ → ℕ → Type 0
Row l n = (length l ≤ 65535) × ((k : ℕ) → slice_index l k < n)

-- events that bytes carry, where there are p programs
unfoldable pub Carried : ℕ → Event → Type 0
Carried p (make c x y w h) = (c < p) × Near x × Near y × (w < 65536) × (h < 65536)
Carried p (close c n) = (c < p) × (n < 256)
Carried p (move c n x y) = (c < p) × (n < 256) × Near x × Near y
Carried p (raise c n) = (c < p) × (n < 256)
Carried p (show c n b) = (c < p) × (n < 256)
Carried p (fill c n x y w h q) = (c < p) × (n < 256) × (x < 65536) × (y < 65536) × (w < 65536) × (h < 65536) × (q < 4294967296)
Carried p (put c n x y l) = (c < p) × (n < 256) × (x < 65536) × (y < 65536) × Row l 4294967296
Carried p (copy c n x y w h a b) = (c < p) × (n < 256) × (x < 65536) × (y < 65536) × (w < 65536) × (h < 65536) × (a < 65536) × (b < 65536)
Carried p (offer c l) = (c < p) × Row l 256
Carried p (point x y) = Near x × Near y
Carried p (press b) = Unit {0}
Carried p (key k) = k < 4294967296
Carried p paste = Unit {0}

-- words that bytes carry
unfoldable pub CarriedWord : Word → Type 0
CarriedWord no = Unit {0}
CarriedWord done = Unit {0}
CarriedWord (made n) = n < 256
CarriedWord (at n x y) = (n < 256) × Far x × Far y
CarriedWord (pressed n b) = n < 256
CarriedWord (typed n k) = (n < 256) × (k < 4294967296)
CarriedWord (pasted n l) = (n < 256) × Row l 256

-- Of any kind of thing that is written in bytes by `spelling`, and can be by `Can`:

-- one stands at the byte k of the bytes bs
abbrev pub StandsAt : {A : Type 0} → (A → List ℕ) → List ℕ → ℕ → A → Type 0
StandsAt spelling bs k a = (t : List ℕ) × (drop k bs ≡ spelling a ++ t)

-- the n bytes from the byte k on begin one
abbrev pub Begins : {A : Type 0} → (A → List ℕ) → List ℕ → ℕ → ℕ → A → Type 0
Begins spelling bs k n a = (t : List ℕ) × (take n (drop k bs) ++ t ≡ spelling a)

-- the byte j is the first that none has which stands at the byte k: up to it there is one that begins so, with it there is none.
-- If j is the length of bs, it is the byte that is missing
pub record FirstFault {A : Type 0} (spelling : A → List ℕ) (Can : A → Type 0) (bs : List ℕ) (k j : ℕ) : Type 0 where
  pub from : k ≤ j
  pub within : j ≤ length bs
  pub before : (a : A) × Can a × Begins spelling bs k (j - k) a
  pub here : j < length bs → (a : A) → Can a → Begins spelling bs k (suc (j - k)) a → ⊥
  pub none : (a : A) → Can a → StandsAt spelling bs k a → ⊥

-- events of kinds that are built, where there are p programs
abbrev pub Sent : (ℕ → Bool) → ℕ → Event → Type 0
Sent built p e = Carried p e × (built (kind e) ≡ true)

-- An event that is written is read again, whatever stands before it and behind it.
unfoldable pub ReadsBack : Type 0
ReadsBack =
    (built : ℕ → Bool) (p : ℕ) (e : Event) (before behind : List ℕ) → Sent built p e → length (before ++ (encode e ++ behind)) < 4294967296 →
    read_event built p (before ++ (encode e ++ behind)) (length before) ≡ Ok (e, length before + length (encode e))

-- Whatever is read is an event of a kind that is built, and the bytes from where it was read up to its end are its own.
unfoldable pub ReadsOnly : Type 0
ReadsOnly =
    (built : ℕ → Bool) (p : ℕ) (bs : List ℕ) (k : ℕ) (e : Event) (to : ℕ) → Bytes bs → read_event built p bs k ≡ Ok (e, to) →
    Sent built p e × (k < to) × (to ≤ length bs) × (slice_range bs k to ≡ encode e)

-- A fault is at the first byte that no event has which stands there, and is reported if there is no such event.
unfoldable pub FaultsFirst : Type 0
FaultsFirst =
    (built : ℕ → Bool) (p : ℕ) (bs : List ℕ) (k j : ℕ) → Bytes bs → length bs < 4294967296 → k ≤ length bs → 0 < p → ((q : ℕ) × (q < 13) × (built q ≡ true)) →
    read_event built p bs k ≡ Err j → FirstFault encode (Sent built p) bs k j

unfoldable pub FaultsWhereNone : Type 0
FaultsWhereNone =
    (built : ℕ → Bool) (p : ℕ) (bs : List ℕ) (k : ℕ) → Bytes bs → ((e : Event) → Sent built p e → StandsAt encode bs k e → ⊥) →
    (j : ℕ) × (read_event built p bs k ≡ Err j)

-- The same of words, with the program that is told.
abbrev pub spell_told : ℕ × Word → List ℕ
spell_told m = encode_word m.0 m.1

abbrev pub Told : ℕ × Word → Type 0
Told m = (m.0 < 256) × CarriedWord m.1

unfoldable pub ReadsWordBack : Type 0
ReadsWordBack =
    (m : ℕ × Word) (before behind : List ℕ) → Told m → length (before ++ (spell_told m ++ behind)) < 4294967296 →
    read_told (before ++ (spell_told m ++ behind)) (length before) ≡ Ok (m, length before + length (spell_told m))

unfoldable pub ReadsWordsOnly : Type 0
ReadsWordsOnly =
    (bs : List ℕ) (k : ℕ) (m : ℕ × Word) (to : ℕ) → Bytes bs → read_told bs k ≡ Ok (m, to) →
    Told m × (k < to) × (to ≤ length bs) × (slice_range bs k to ≡ spell_told m)

unfoldable pub WordFaultsFirst : Type 0
WordFaultsFirst =
    (bs : List ℕ) (k j : ℕ) → Bytes bs → length bs < 4294967296 → k ≤ length bs → read_told bs k ≡ Err j → FirstFault spell_told Told bs k j

unfoldable pub WordFaultsWhereNone : Type 0
WordFaultsWhereNone =
    (bs : List ℕ) (k : ℕ) → Bytes bs → ((m : ℕ × Word) → Told m → StandsAt spell_told bs k m → ⊥) → (j : ℕ) × (read_told bs k ≡ Err j)

-- Three rows of bytes worked out.
unfoldable pub Worked : Type 0
Worked =
    (encode (put 0 2 1 300 (7 ∷ 8 ∷ 16711680 ∷ [])) ≡ 6 ∷ 0 ∷ 2 ∷ 1 ∷ 0 ∷ 44 ∷ 1 ∷ 3 ∷ 0 ∷ 7 ∷ 0 ∷ 0 ∷ 0 ∷ 8 ∷ 0 ∷ 0 ∷ 0 ∷ 0 ∷ 0 ∷ 255 ∷ 0 ∷ []) ×
    (encode (make 0 (neg_ℤ (pos 1)) (pos 0) 3 1) ≡ 0 ∷ 0 ∷ 255 ∷ 255 ∷ 0 ∷ 0 ∷ 3 ∷ 0 ∷ 1 ∷ 0 ∷ []) ×
    (encode_word 1 (typed 4 65) ≡ 1 ∷ 5 ∷ 4 ∷ 65 ∷ 0 ∷ 0 ∷ 0 ∷ [])
