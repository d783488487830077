-- What the state means: with what the lent pictures hold, a desk.
use Rattle.std.specs.Prelude.{◌≡◌, ℕ, ◌≤◌, List}
use Rattle.model.specs.Desk.{Desk, Sizes}
use Rattle.model.specs.Promise.{FitsSizes}
use Rattle.model.specs.Sound.{Sound}
use Rattle.few.specs.Held.{held}
use Rattle.stack.specs.View.{slots_of, windows_of, order_of, numbered}
use Rattle.stack.specs.Packed.{Packed}
use Rattle.layout.specs.declared.state.State.{State}

abbrev pub clip_in : State → List ℕ
clip_in s = held s.clip.bytes

abbrev pub desk_of : State → List ℕ → Desk
desk_of s p =
    record {
      windows = windows_of s.stack p;
      order = order_of s.stack;
      px = s.x;
      py = s.y;
      keys = numbered s.keys;
      held = numbered s.held;
      clip_of = numbered s.clip.owner;
      clip = clip_in s;
    }

-- a state that events lead to, for sizes in their ranges and pictures of so many dots: its windows are as many as the sizes say, their pictures are
-- packed from the start of the memory, which has room for all that the sizes allow, and the desk is sound
pub record Good (z : Sizes) (s : State) (size : ℕ) : Type 0 where
  pub sizes : FitsSizes z
  pub limit : s.stack.limit ≡ z.windows
  pub packed : Packed 0 (slots_of s.stack)
  pub room : z.dots ≤ size
  pub sound : (p : List ℕ) → Sound z (desk_of s p)
