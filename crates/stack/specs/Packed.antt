-- Pictures that lie one after another, in the order of the windows' numbers and without a gap.
use Rattle.std.specs.Prelude.{◌≡◌, ℕ, ◌+◌, true, List, [], ◌∷◌, Some, None, Option}
use Rattle.model.specs.Desk as desk
use Rattle.stack.specs.declared.state.Window.{Window}
use Rattle.stack.specs.View.{size_of}

-- a window's picture, if there is one, begins at a place
abbrev pub Begins : ℕ → Option Window → Type 0
Begins at None = Unit {0}
Begins at (Some w) = w.at ≡ at

-- the pictures lie one after another from a place on
abbrev pub Packed : ℕ → List (Option Window) → Type 0
Packed at [] = Unit {0}
Packed at (o ∷ os) = Begins at o × Packed (at + size_of o) os

-- a window as it is made: all of colour 0
abbrev pub fresh : Window → desk.Window
fresh w = record { there = true; owner = w.owner; shown = w.shown; x = w.x; y = w.y; wide = w.wide; high = w.high; dots = λ i j. 0 }
