-- The lines at which a set of dots may change, and how many boxes it then has.
use Rattle.std.specs.Prelude.{◌≡◌, ℕ, zero, suc, ◌+◌, ◌*◌, ◌≤◌, Bool, false, ◌||◌, List, [], ◌∷◌, length, ◌==◌}
use Rattle.geometry.specs.declared.Rect.{Rect}
use Rattle.region.specs.Flat.{covers}

abbrev pub among : List ℕ → ℕ → Bool
among [] i = false
among (x ∷ xs) i = x == i || among xs i

-- the number before, of a set of numbers
abbrev pub before : (ℕ → Bool) → ℕ → Bool
before f zero = false
before f (suc i) = f i

-- a set of numbers changes only at X
abbrev pub Only : List ℕ → (ℕ → Bool) → Type 0
Only X f = (i : ℕ) → among X i ≡ false → f i ≡ before f i

-- a set of dots changes only at the columns X and the rows Y
pub record Lines (X Y : List ℕ) (rs : List Rect) : Type 0 where
  pub columns : (j : ℕ) → Only X (λ i. covers rs i j)
  pub rows : (i : ℕ) → Only Y (λ j. covers rs i j)

-- two regions on few enough lines for the room there is
pub record Roomy (a b : List Rect) (room : ℕ) : Type 0 where
  pub X : List ℕ
  pub Y : List ℕ
  pub on_a : Lines X Y a
  pub on_b : Lines X Y b
  pub enough : length X * (length Y + 2) ≤ 2 * room

-- the boxes that what is made of k boxes may come to, and one band more
abbrev pub room_for : ℕ → ℕ
room_for k = 2 * (k * (k + 1))
