-- What the code holds of the damage of an event.
use Rattle.std.specs.Prelude.{◌≡◌, ℕ, suc, ◌+◌, Bool, false, ◌&&◌, ◌||◌, pos, ◌+ℤ◌, Some, None, Option, ◌==◌, int_le, int_lt}
use Rattle.model.specs.Desk.{Desk, Sizes, Window, Event, after, window}
use Rattle.model.specs.Promise.{subject}
use Rattle.model.specs.System.{front_at, turned, damage}
use Rattle.model.specs.Grid.{painted_box}
use Rattle.damage.specs.declared.types.Side.{Side}
use Rattle.damage.specs.declared.types.Placed.{Placed}
use Rattle.damage.specs.declared.types.How.{How}
use Rattle.damage.specs.declared.types.How.TheVariants.{Turned, Moved, Painted}
use Rattle.damage.specs.declared.types.Hurt.{Hurt}

-- a place of the screen lies in a side
abbrev pub in_side : Side → ℕ → Bool
in_side s i = int_le s.from (pos i) && int_lt (pos i) s.to

abbrev pub in_placed : Placed → ℕ → ℕ → Bool
in_placed a i j = in_side a.across i && in_side a.down j

-- the box of w by h dots at x, y of a window, where it lies on the desk
pub record Placing (v : Window) (x y w h : ℕ) (a : Placed) : Type 0 where
  pub left : a.across.from ≡ v.x +ℤ pos x
  pub top : a.down.from ≡ v.y +ℤ pos y
  pub right : a.across.to ≡ v.x +ℤ pos (x + w)
  pub below : a.down.to ≡ v.y +ℤ pos (y + h)

-- the dot is damaged, given the desk before and after the event
unfoldable pub hurts_by : How → ℕ → Placed → Desk → Desk → ℕ → ℕ → Bool
hurts_by Turned n a d d' i j = turned d d' i j
hurts_by Moved n a d d' i j = turned d d' i j || front_at d' i j == suc n
hurts_by Painted n a d d' i j = front_at d i j == suc n && in_placed a i j

abbrev pub hurts : Hurt → Desk → Desk → ℕ → ℕ → Bool
hurts h d d' i j = hurts_by h.how h.window h.area d d' i j

-- what was decided of an event is its damage, about its window and its painted box
pub record Decided (z : Sizes) (d : Desk) (e : Event) (h : Hurt) : Type 0 where
  pub about : subject e ≡ suc h.window
  pub area : Placing (window d h.window) (painted_box e).x (painted_box e).y (painted_box e).wide (painted_box e).high h.area
  pub dots : (i j : ℕ) → damage z d e i j ≡ hurts h d (after z d e).0 i j

abbrev pub Decides : Sizes → Desk → Event → Option Hurt → Type 0
Decides z d e None = (i j : ℕ) → damage z d e i j ≡ false
Decides z d e (Some h) = Decided z d e h
