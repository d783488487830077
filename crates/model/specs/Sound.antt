-- What holds of every desk that events lead to.
use Rattle.std.specs.Prelude.{◌≡◌, ℕ, suc, ◌<◌, ◌≤◌, true, List, length}
use Rattle.model.specs.Basics.{pick}
use Rattle.model.specs.Desk.{Desk, Sizes, Window, Event, run, empty, window, area}
use Rattle.model.specs.Promise.{times}

-- a window's number + 1, or 0: if it is one, the window is there
abbrev pub Held : Desk → ℕ → Type 0
Held d k = (n : ℕ) → k ≡ suc n → (window d n).there ≡ true

-- a window of a program that there is, with sides that the sizes allow
pub record Shaped (z : Sizes) (w : Window) : Type 0 where
  pub owner : w.owner < z.programs
  pub wide_least : 1 ≤ w.wide
  pub wide_most : w.wide ≤ z.side
  pub high_least : 1 ≤ w.high
  pub high_most : w.high ≤ z.side

abbrev pub ShapedIf : Sizes → Window → Type 0
ShapedIf z w = w.there ≡ true → Shaped z w

-- as many places for windows as the sizes say; the keys and the pointer are held by windows that are there; every window that is there stands in the
-- order once, and no other; each is shaped; and the pictures together have no more dots than the sizes allow
pub record Sound (z : Sizes) (d : Desk) : Type 0 where
  pub len : length d.windows ≡ z.windows
  pub keys_there : Held d d.keys
  pub held_there : Held d d.held
  pub once : (n : ℕ) → times n d.order ≡ pick (window d n).there 1 0
  pub shaped : (n : ℕ) → ShapedIf z (window d n)
  pub few : area d.windows ≤ z.dots

unfoldable pub StaysSound : Type 0
StaysSound = (z : Sizes) (es : List Event) → Sound z (run z (empty z) es)
