-- The cells of the grid as they are written, and their dots.
use Rattle.std.specs.Prelude.{◌≡◌, ℕ, zero, suc, ◌+◌, ◌*◌, ◌<◌, ◌≤◌, Bool, true, List, [], ◌∷◌, ◌++◌, map, pos, ◌+ℤ◌, ◌-ℤ◌, Some, None, Option, int_le, slice_index_or}
use Rattle.std.specs.Int.Signed.{mag}
use Rattle.std.specs.Coded.{×_prop, Π_prop, →_prop, le_prop}
use Rattle.std.proofs.Math.Bool.{Bool-set}
use Rattle.std.proofs.Math.Nat.{ℕ_set}
use Rattle.geometry.specs.declared.Rect.{Rect}
use Rattle.model.specs.Desk.{dot}
use Rattle.model.specs.System as system
use Rattle.model.specs.System.{tabled, coloured, front_at}
use Rattle.model.specs.Grid.{cell}
use Rattle.stack.specs.View.{dots_of, slots_of}
use Rattle.stack.specs.declared.state.Window.{Window}
use Rattle.layout.specs.State.{desk_of}
use Rattle.layout.specs.declared.state.State.{State}
use Rattle.damage.specs.declared.types.Hurt.{Hurt}
use Rattle.damage.specs.Encode.{encode}
use Rattle.damage.specs.Hurts.{hurts}

-- the colour that a window has at a dot of the screen; where there is none it is 0
abbrev pub seen : List ℕ → Option Window → ℕ → ℕ → ℕ
seen p None i j = 0
seen p (Some w) i j = dots_of p w (mag (pos i -ℤ w.x)) (mag (pos j -ℤ w.y))

-- the window lies over all of a box, and its picture in so many dots
pub record Over (size : ℕ) (w : Window) (r : Rect) : Type 0 where
  pub left : int_le w.x (pos r.left) ≡ true
  pub right : int_le (pos r.right) (w.x +ℤ pos w.wide) ≡ true
  pub top : int_le w.y (pos r.top) ≡ true
  pub below : int_le (pos r.below) (w.y +ℤ pos w.high) ≡ true
  pub lent : w.at + w.wide * w.high ≤ size

abbrev pub OverIf : ℕ → Option Window → Rect → Type 0
OverIf size None r = Unit {0}
OverIf size (Some w) r = Over size w r

-- the w dots from x on in the row j
abbrev pub dot_row : (ℕ → ℕ → ℕ) → ℕ → ℕ → ℕ → List ℕ
dot_row f x w j = tabled w (λ k. f (x + k) j)

-- and in h rows, from the row j on
unfoldable pub dot_rows : (ℕ → ℕ → ℕ) → ℕ → ℕ → ℕ → ℕ → List ℕ
dot_rows f x w j zero = []
dot_rows f x w j (suc h) = dot_row f x w j ++ dot_rows f x w (suc j) h

-- boxes of the desk that a state and the pictures make, as words
abbrev pub words_of : State → List ℕ → List system.Rect → List ℕ
words_of s p rs = encode (map (coloured (dot (desk_of s p))) rs)

-- the dots that are damaged
abbrev pub damaged : Hurt → State → State → List ℕ → ℕ → ℕ → Bool
damaged h before after p i j = hurts h (desk_of before p) (desk_of after p) i j

-- the cells between two rows, from the column a on, each up to the next line
unfoldable pub row_of : (ℕ → ℕ → Bool) → ℕ → ℕ → ℕ → List ℕ → List system.Rect
row_of s c c' a [] = []
row_of s c c' a (b ∷ bs) = cell s a b c c' ++ row_of s c c' b bs

-- the rows of cells, from the row c on, each down to the next line
unfoldable pub cells_of : (ℕ → ℕ → Bool) → List ℕ → ℕ → List ℕ → List system.Rect
cells_of s xs c [] = []
cells_of s xs c (c' ∷ cs) = row_of s c c' 0 xs ++ cells_of s xs c' cs

-- f is the same from each line up to the next
abbrev pub Even : (ℕ → ℕ) → ℕ → List ℕ → Type 0
Even f a [] = Unit {0}
Even f a (b ∷ bs) = ((u : ℕ) → a ≤ u → u < b → f u ≡ f a) × Even f b bs

-- all lines lie at places with two bytes and a sign
abbrev pub Low : List ℕ → Type 0
Low [] = Unit {0}
Low (b ∷ bs) = (b ≤ 32768) × Low bs

-- one window is in front in all of a box
abbrev pub OneFront : State → List ℕ → Rect → Type 0
OneFront s p r =
    (i j : ℕ) → r.left ≤ i → i < r.right → r.top ≤ j → j < r.below → front_at (desk_of s p) i j ≡ front_at (desk_of s p) r.left r.top

-- the window in front at a dot, where there is one
abbrev pub Fronting : State → ℕ → ℕ → Option Window → Type 0
Fronting s i j None = (p : List ℕ) → front_at (desk_of s p) i j ≡ 0
Fronting s i j (Some w) = (n : ℕ) × (slice_index_or (slots_of s.stack) n None ≡ Some w) × ((p : List ℕ) → front_at (desk_of s p) i j ≡ suc n)

-- the pictures of all windows lie in so many dots
abbrev pub Lent : State → ℕ → Type 0
Lent s size = (n : ℕ) (w : Window) → slice_index_or (slots_of s.stack) n None ≡ Some w → w.at + w.wide * w.high ≤ size

-- each of these facts holds in one way, so a type can carry it
pub OverIf-prop : (size : ℕ) (o : Option Window) (r : Rect) → IsProp (OverIf size o r)
OverIf-prop size None r = hlevel
OverIf-prop size (Some w) r = hlevel (Bool-set, le_prop)

pub Low-prop : (xs : List ℕ) → IsProp (Low xs)
Low-prop [] = hlevel
Low-prop (b ∷ bs) = ×_prop le_prop (Low-prop bs)

even-prop : (f : ℕ → ℕ) (a : ℕ) (xs : List ℕ) → IsProp (Even f a xs)
even-prop f a [] = hlevel
even-prop f a (b ∷ bs) = ×_prop (Π_prop (λ u. →_prop (→_prop (ℕ_set (f u) (f a))))) (even-prop f b bs)

pub Even-prop : (f : ℕ → ℕ → ℕ) (xs : List ℕ) → IsProp ((k : ℕ) → Even (f k) 0 xs)
Even-prop f xs = Π_prop (λ k. even-prop (f k) 0 xs)
