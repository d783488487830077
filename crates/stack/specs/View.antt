-- What the state means: windows and an order of the desk. p is what the lent pictures hold.
use Rattle.std.specs.Prelude.{ℕ, suc, ◌+◌, ◌*◌, Bool, true, ◌&&◌, List, [], ◌∷◌, map, take, ℤ, Some, None, Option, nat_lt, slice_index}
use Rattle.model.specs.Basics.{pick}
use Rattle.model.specs.Desk as desk
use Rattle.model.specs.Desk.{nothing}
use Rattle.stack.specs.declared.state.Window.{Window}
use Rattle.stack.specs.declared.state.Stack.{Stack}
use Rattle.few.specs.Held.{held}
use Rattle.pixels.specs.declared.Picture.{Picture}

-- the dots of a window's picture, and 0 outside
abbrev pub dots_of : List ℕ → Window → ℕ → ℕ → ℕ
dots_of p w i j = pick (nat_lt i w.wide && nat_lt j w.high) (slice_index p (w.at + j * w.wide + i)) 0

abbrev pub view : List ℕ → Option Window → desk.Window
view p None = nothing
view p (Some w) =
    record { there = true; owner = w.owner; shown = w.shown; x = w.x; y = w.y; wide = w.wide; high = w.high; dots = dots_of p w }

-- where it lies in the lent pictures
abbrev pub picture_of : Window → Picture
picture_of w = record { at = w.at; wide = w.wide; high = w.high }

-- the windows that can be made
abbrev pub slots_of : Stack → List (Option Window)
slots_of s = take s.limit s.windows

abbrev pub windows_of : Stack → List ℕ → List desk.Window
windows_of s p = map (view p) (slots_of s)

abbrev pub order_of : Stack → List ℕ
order_of s = held s.order

-- a window's number + 1, or 0
abbrev pub numbered : Option ℕ → ℕ
numbered None = 0
numbered (Some n) = suc n

-- the dots that a window's picture takes
abbrev pub dots_used : desk.Window → ℕ
dots_used w = pick w.there (w.wide * w.high) 0

-- what a move and a show make of a window
abbrev pub placed : desk.Window → ℕ → ℤ → ℤ → desk.Window
placed w c x y = record { there = true; owner = c; shown = w.shown; x = x; y = y; wide = w.wide; high = w.high; dots = w.dots }

abbrev pub shown_as : desk.Window → ℕ → Bool → desk.Window
shown_as w c b = record { there = true; owner = c; shown = b; x = w.x; y = w.y; wide = w.wide; high = w.high; dots = w.dots }

-- the same of a window of the state
abbrev pub put_at : ℤ → ℤ → Option Window → Option Window
put_at x y None = None
put_at x y (Some w) = Some (record { owner = w.owner; shown = w.shown; x = x; y = y; wide = w.wide; high = w.high; at = w.at })

abbrev pub put_on : Bool → Option Window → Option Window
put_on b None = None
put_on b (Some w) = Some (record { owner = w.owner; shown = b; x = w.x; y = w.y; wide = w.wide; high = w.high; at = w.at })

-- the dots of a window's picture, in the state
abbrev pub size_of : Option Window → ℕ
size_of None = 0
size_of (Some w) = w.wide * w.high

-- a window whose picture begins at a place
abbrev pub begun : ℕ → Option Window → Option Window
begun at None = None
begun at (Some w) = Some (record { owner = w.owner; shown = w.shown; x = w.x; y = w.y; wide = w.wide; high = w.high; at = at })

-- windows whose pictures lie one after another from a place on, in the order of their numbers and without a gap
abbrev pub packed : ℕ → List (Option Window) → List (Option Window)
packed at [] = []
packed at (o ∷ os) = begun at o ∷ packed (at + size_of o) os
