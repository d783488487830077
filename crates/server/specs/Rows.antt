-- The rows of one program over whole histories: the bytes that it takes after each call.
use Rattle.std.specs.Prelude.{◌≡◌, ℕ, Bool, true, List, [], ◌∷◌, ◌++◌, map, take}
use Rattle.model.specs.Desk.{Sizes, Word, empty, told}
use Rattle.model.specs.Promise.{Alike}
use Rattle.server.specs.Told.{told_bytes}
use Rattle.server.specs.Mailbox.{Took, words_in}
use Rattle.server.specs.History.{Call, History, ShortRows, all_events, words_of, read_by}

-- a program's row before and after it took its words, and how many bytes it was handed
pub record Taking : Type 0 where
  pub old : List ℕ
  pub new : List ℕ
  pub count : ℕ

-- the bytes that it was handed
abbrev pub handed : Taking → List ℕ
handed t = take t.count t.new

-- the program c takes its words after each call
abbrev pub Takes : ℕ → List Call → List Taking → Type 0
Takes c [] [] = Unit {0}
Takes c [] (t ∷ ts) = ⊥
Takes c (k ∷ ks) [] = ⊥
Takes c (k ∷ ks) (t ∷ ts) = Took c (words_of k) t.old t.new t.count × Takes c ks ts

-- all that it was handed
abbrev pub all_handed : List Taking → List ℕ
all_handed [] = []
all_handed (t ∷ ts) = handed t ++ all_handed ts

-- words to one program, in bytes
abbrev pub row_of : ℕ → List Word → List ℕ
row_of c ws = told_bytes (map (λ w. (c, w)) ws)

-- What a program takes after the calls of a history are the bytes of what the desk tells it, and no others
unfoldable pub RowsTold : Type 0
RowsTold =
    (z : Sizes) (c : ℕ) (cs : List Call) (ts : List Taking) → History z cs → ShortRows cs → Takes c cs ts → all_handed ts ≡ row_of c (told z (empty z) c (all_events z cs))

-- Two histories that differ only in what others paint and in keys typed for others put the same bytes into its rows
unfoldable pub RowsUnseen : Type 0
RowsUnseen =
    (z : Sizes) (A : ℕ → Bool) (c : ℕ) (cs ds : List Call) (ts us : List Taking) → History z cs → History z ds → ShortRows cs → ShortRows ds → Takes c cs ts → Takes c ds us → A c ≡ true →
    Alike z A (empty z) (all_events z cs) (all_events z ds) → all_handed ts ≡ all_handed us

-- and so do two calls that tell it the same, whatever they tell others
unfoldable pub RowAlone : Type 0
RowAlone =
    (c : ℕ) (k l : Call) (t u : Taking) → Took c (words_of k) t.old t.new t.count → Took c (words_of l) u.old u.new u.count →
    read_by c (words_in (words_of k)) ≡ read_by c (words_in (words_of l)) → handed t ≡ handed u
