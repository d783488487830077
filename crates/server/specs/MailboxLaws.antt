-- What is told, in rows of bytes: the theorems about the words of all and of one program.
use Rattle.std.specs.Prelude.{◌≡◌, ℕ, ◌<◌, ◌≤◌, List, ◌++◌, map, length, take, Ok, Err}
use Rattle.model.specs.Desk.{Word, words_to}
use Rattle.protocol.specs.Fields.{Bytes}
use Rattle.protocol.specs.Laws.{Told, spell_told, FirstFault}
use Rattle.server.specs.Told.{told_bytes, AllCarried}
use Rattle.server.specs.Mailbox.{own, words_in, Took, heard}

-- What is written is read.
unfoldable pub WordsReadBack : Type 0
WordsReadBack = (ms : List (ℕ × Word)) → AllCarried ms → length (told_bytes ms) < 4294967296 → words_in (told_bytes ms) ≡ Ok ms

-- Whatever is read are such words, and the bytes are theirs, to the last.
unfoldable pub WordsReadOnly : Type 0
WordsReadOnly = (bs : List ℕ) (ms : List (ℕ × Word)) → Bytes bs → words_in bs ≡ Ok ms → AllCarried ms × (told_bytes ms ≡ bs)

-- A fault is at the first byte that no word has which stands behind the words in front of it.
pub record FaultBehind (bs : List ℕ) (j : ℕ) : Type 0 where
  pub front : List (ℕ × Word)
  pub carried : AllCarried front
  pub spelt : take (length (told_bytes front)) bs ≡ told_bytes front
  pub first : FirstFault spell_told Told bs (length (told_bytes front)) j

unfoldable pub WordsFaultFirst : Type 0
WordsFaultFirst = (bs : List ℕ) (j : ℕ) → Bytes bs → length bs < 4294967296 → words_in bs ≡ Err j → FaultBehind bs j

-- The rows of several calls, put together, are the row of all: for all programs, and for one.
unfoldable pub RowsTogether : Type 0
RowsTogether =
    (bs cs : List ℕ) (ms ns : List (ℕ × Word)) → Bytes bs → Bytes cs → length (bs ++ cs) < 4294967296 → words_in bs ≡ Ok ms → words_in cs ≡ Ok ns → words_in (bs ++ cs) ≡ Ok (ms ++ ns)

unfoldable pub ToldTogether : Type 0
ToldTogether = (ms ns : List (ℕ × Word)) → told_bytes (ms ++ ns) ≡ told_bytes ms ++ told_bytes ns

unfoldable pub OwnTogether : Type 0
OwnTogether =
    (c : ℕ) (ms ns : List (ℕ × Word)) → (own c (ms ++ ns) ≡ own c ms ++ own c ns) × (told_bytes (own c (ms ++ ns)) ≡ told_bytes (own c ms) ++ told_bytes (own c ns))

-- What is taken for a program are the words that it is told.
unfoldable pub OwnWords : Type 0
OwnWords = (c : ℕ) (ms : List (ℕ × Word)) → map (λ m. m.1) (own c ms) ≡ words_to c ms

-- It does not depend on what others are told.
unfoldable pub OwnAlone : Type 0
OwnAlone = (c : ℕ) (ms ns : List (ℕ × Word)) → words_to c ms ≡ words_to c ns → told_bytes (own c ms) ≡ told_bytes (own c ns)

-- A row as long as the row of all has room for it.
unfoldable pub OwnShort : Type 0
OwnShort = (c : ℕ) (ms : List (ℕ × Word)) → length (told_bytes (own c ms)) ≤ length (told_bytes ms)

-- Read one word after another, it says what the program is told.
unfoldable pub Heard : Type 0
Heard = (c : ℕ) (ms : List (ℕ × Word)) → AllCarried ms → length (told_bytes (own c ms)) < 4294967296 → heard (told_bytes (own c ms)) ≡ Ok (words_to c ms)

-- So from the bytes that were taken into its row, it reads what it is told.
unfoldable pub TakenHeard : Type 0
TakenHeard = (c : ℕ) (bs old new : List ℕ) (n : ℕ) → Bytes bs → (t : Took c bs old new n) → heard (take n new) ≡ Ok (words_to c t.all)
