-- Boxes and rows of a window's own dots, and who may paint them.
use Rattle.std.specs.Prelude.{◌≡◌, ℕ, Bool, true, false, ◌&&◌, List, Some, None, Option}
use Rattle.model.specs.Desk.{Desk, window, mine, box_fits}
use Rattle.protocol.specs.declared.types.Patch.{Patch}
use Rattle.pixels.specs.declared.Area.{Area}
use Rattle.pixels.specs.declared.Span.{Span}
use Rattle.stack.specs.View.{view, windows_of}
use Rattle.stack.specs.Found.{Own}
use Rattle.stack.specs.declared.state.Window.{Window}
use Rattle.stack.specs.declared.state.Stack.{Stack}

abbrev pub area_at : ℕ → ℕ → ℕ → ℕ → Area
area_at x y w h = record { x = x; y = y; wide = w; high = h }

abbrev pub span_at : ℕ → ℕ → ℕ → Span
span_at x y w = record { x = x; y = y; wide = w }

-- whether a program c may paint the box b of a window n: the window is its own, and the box lies in it
abbrev pub paintable : Desk → ℕ → ℕ → Patch → Bool
paintable d c n b = mine d c n && box_fits (window d n) b.x b.y b.wide b.high

-- the window to paint in, where the program may; d is any desk with the windows of the state
abbrev pub Target : Stack → ℕ → ℕ → Patch → Option Window → Type 0
Target s c n b None = (d : Desk) (p : List ℕ) → d.windows ≡ windows_of s p → paintable d c n b ≡ false
Target s c n b (Some w) = Own s c n w × ((p : List ℕ) → box_fits (view p (Some w)) b.x b.y b.wide b.high ≡ true)
