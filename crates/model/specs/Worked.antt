-- Events worked out: a screen of 6 by 2, 4 windows, 2 programs, sides up to 6, 24 dots of all pictures.
use Rattle.std.specs.Prelude.{◌≡◌, ℕ, true, false, List, [], ◌∷◌, ◌++◌, map, pos, negsuc}
use Rattle.model.specs.Desk.{Desk, Sizes, Event, Word, after, run, empty, dot, make, raise, show, fill, put, point, press, key, made, done, no, at, pressed, typed}

abbrev pub small : Sizes
small = record { wide = 6; high = 2; windows = 4; programs = 2; side = 6; dots = 24; built = λ k. true }

-- all that is told, and to whom
unfoldable pub all_words : Sizes → Desk → List Event → List (ℕ × Word)
all_words z d [] = []
all_words z d (e ∷ es) = (after z d e).1 ++ all_words z (after z d e).0 es

-- the dots of the desk by rows
abbrev pub row : Desk → ℕ → List ℕ
row d j = map (λ i. dot d i j) (0 ∷ 1 ∷ 2 ∷ 3 ∷ 4 ∷ 5 ∷ [])

abbrev pub rows : Desk → List (List ℕ)
rows d = map (row d) (0 ∷ 1 ∷ [])

pub record Row : Type 0 where
  pub events : List Event
  pub seen : List (List ℕ)
  pub words : List (ℕ × Word)

abbrev pub black : List ℕ
black = 0 ∷ 0 ∷ 0 ∷ 0 ∷ 0 ∷ 0 ∷ []

abbrev pub row_A : Row
row_A =
    record {
      events = make 0 (pos 0) (pos 0) 3 2 ∷ show 0 0 true ∷ fill 0 0 0 0 3 2 1 ∷ [];
      seen = (1 ∷ 1 ∷ 1 ∷ 0 ∷ 0 ∷ 0 ∷ []) ∷ (1 ∷ 1 ∷ 1 ∷ 0 ∷ 0 ∷ 0 ∷ []) ∷ [];
      words = (0, made 0) ∷ (0, done) ∷ (0, done) ∷ [];
    }

abbrev pub row_B : Row
row_B =
    record {
      events =
          make 0 (pos 0) (pos 0) 4 2 ∷ show 0 0 true ∷ fill 0 0 0 0 4 2 1 ∷ make 1 (pos 2) (pos 1) 4 1 ∷ show 1 1 true ∷ fill 1 1 0 0 4 1 2 ∷ raise 0 0 ∷ [];
      seen = (1 ∷ 1 ∷ 1 ∷ 1 ∷ 0 ∷ 0 ∷ []) ∷ (1 ∷ 1 ∷ 1 ∷ 1 ∷ 2 ∷ 2 ∷ []) ∷ [];
      words = (0, made 0) ∷ (0, done) ∷ (0, done) ∷ (1, made 1) ∷ (1, done) ∷ (1, done) ∷ (0, done) ∷ [];
    }

abbrev pub row_C : Row
row_C =
    record {
      events =
          make 0 (negsuc 0) (pos 0) 3 1 ∷ show 0 0 true ∷ put 0 0 0 0 (7 ∷ 8 ∷ 9 ∷ []) ∷ point (pos 0) (pos 0) ∷ press true ∷ key 65 ∷ point (pos 9) (pos 9) ∷ press false ∷ key 66 ∷ [];
      seen = (8 ∷ 9 ∷ 0 ∷ 0 ∷ 0 ∷ 0 ∷ []) ∷ black ∷ [];
      words =
          (0, made 0) ∷ (0, done) ∷ (0, done) ∷ (0, at 0 (pos 1) (pos 0)) ∷ (0, pressed 0 true) ∷ (0, typed 0 65) ∷ (0, at 0 (pos 6) (pos 1)) ∷ (0, pressed 0 false) ∷ (0, typed 0 66) ∷ [];
    }

abbrev pub row_F : Row
row_F =
    record {
      events = make 0 (pos 0) (pos 0) 7 1 ∷ make 0 (pos 0) (pos 0) 3 1 ∷ show 0 0 true ∷ fill 1 0 0 0 1 1 5 ∷ fill 0 0 2 0 2 1 5 ∷ [];
      seen = black ∷ black ∷ [];
      words = (0, no) ∷ (0, made 0) ∷ (0, done) ∷ (1, no) ∷ (0, no) ∷ [];
    }

abbrev pub table : List Row
table = row_A ∷ row_B ∷ row_C ∷ row_F ∷ []

-- each row's events come to its screen and its words
abbrev pub comes_to : Row → List (List ℕ) × List (ℕ × Word)
comes_to r = (rows (run small (empty small) r.events), all_words small (empty small) r.events)

abbrev pub stated : Row → List (List ℕ) × List (ℕ × Word)
stated r = (r.seen, r.words)

unfoldable pub Worked : Type 0
Worked = map comes_to table ≡ map stated table
