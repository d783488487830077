-- What holds of the state's order and of the lent pictures.
use Rattle.std.specs.Prelude.{◌≡◌, ℕ, true, List, is_some, Some, None, Option, ◌≢◌, slice_index_or}
use Rattle.model.specs.Basics.{pick}
use Rattle.model.specs.Desk.{Event, Sizes}
use Rattle.model.specs.Promise.{times, is_paint, painter}
use Rattle.stack.specs.View.{dots_of, slots_of, order_of}
use Rattle.stack.specs.declared.state.Window.{Window}
use Rattle.layout.specs.State.{Good}
use Rattle.layout.specs.declared.state.State.{State}
use Rattle.desktop.specs.Does.{Carried}
use Rattle.desktop.specs.declared.told.Told.{Told}

-- every window that is there stands in the state's order once, and no other
unfoldable pub OrderKept : Type 0
OrderKept =
    (z : Sizes) (s : State) (size n : ℕ) → Good z s size → times n (order_of s.stack) ≡ pick (is_some (slice_index_or (slots_of s.stack) n None)) 1 0

-- the dots in the lent memory of a window's picture are changed only by paint of its owner
unfoldable pub PicturesKept : Type 0
PicturesKept =
    (z : Sizes) (e : Event) (s s' : State) (p p' : List ℕ) (r : Option Told) (n i j : ℕ) (w w' : Window) → Carried z e s p s' p' r →
    slice_index_or (slots_of s.stack) n None ≡ Some w → slice_index_or (slots_of s'.stack) n None ≡ Some w' →
    (is_paint e ≡ true → w.owner ≢ painter e) → dots_of p' w' i j ≡ dots_of p w i j
