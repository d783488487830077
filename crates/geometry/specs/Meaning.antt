-- What the words of this crate come to in the words of the desk.
use Rattle.std.specs.Prelude.{◌≡◌, ℕ, ◌-◌, ◌&&◌, pos}
use Rattle.model.specs.Basics.{in_box}
use Rattle.model.specs.Desk.{Window, in_window}
use Rattle.geometry.specs.declared.Rect.{Rect}
use Rattle.geometry.specs.Boxes.{in_rect, in_placed, Neat}

-- a box by its corners is a box by its upper left dot and its sides
abbrev pub IsBox : Type 0
IsBox = (r : Rect) (i j : ℕ) → in_rect r i j ≡ in_box r.left r.top (r.right - r.left) (r.below - r.top) i j

-- a place lies in a window that is shown where the dot lies in its placed box
abbrev pub IsWindow : Type 0
IsWindow = (w : Window) (i j : ℕ) → in_window w (pos i) (pos j) ≡ ((w.there && w.shown) && in_placed w.x w.y w.wide w.high i j)

-- neat boxes with the same dots are the same
abbrev pub SameRect : Type 0
SameRect = (across down : ℕ) (r s : Rect) → Neat across down r → Neat across down s → ((i j : ℕ) → in_rect r i j ≡ in_rect s i j) → r ≡ s
