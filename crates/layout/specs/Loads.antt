-- What parts of a load give.
use Rattle.std.specs.Prelude.{◌≡◌, ℕ, ◌<◌, ◌≤◌, true, false, not, ◌&&◌, List, length, is_some, Some, None, Option, nat_le, nat_lt, slice_index}
use Rattle.model.specs.Promise.{times}
use Rattle.few.specs.Held.{held}
use Rattle.stack.specs.declared.state.Window.{Window}
use Rattle.stack.specs.declared.state.Stack.{Stack}
use Rattle.stack.specs.View.{numbered, slots_of, order_of}
use Rattle.layout.specs.declared.head.Head.{Head}
use Rattle.layout.specs.declared.sizes.Sizes.{Sizes}
use Rattle.layout.specs.declared.state.Clipboard.{Clipboard}
use Rattle.layout.specs.declared.state.State.{State}
use Rattle.model.specs.Basics.{pick}
use Rattle.layout.specs.Sizes.{sizes_of, size_refusal}
use Rattle.layout.specs.State.{desk_of, Good}
use Rattle.layout.specs.Budget.{start_refusal, work_room}
use Rattle.layout.specs.Head.{all_of, handed, clipped, low, high, word, bytes_in, sizes_in, desk_in, table_in, order_in, room_sound, stack_sound, sound_in, head_end}

-- how often each number below a limit stands in an order
pub record Tally (limit : ℕ) (o seen : List ℕ) : Type 0 where
  pub below : all_of (λ n. nat_lt n limit) o ≡ true
  pub count : (n : ℕ) → n < limit → slice_index seen n ≡ times n o
  pub long : length seen ≡ 255

abbrev pub Tallied : ℕ → List ℕ → Option (List ℕ) → Type 0
Tallied limit o None = all_of (λ n. nat_lt n limit) o ≡ false
Tallied limit o (Some seen) = Tally limit o seen

-- a window that is there, or none, from its number + 1, or 0
pub record HandAs (os : List (Option Window)) (k : ℕ) (n : Option ℕ) : Type 0 where
  pub sound : handed os k ≡ true
  pub number : numbered n ≡ k

abbrev pub Hand : List (Option Window) → ℕ → Option (Option ℕ) → Type 0
Hand os k None = handed os k ≡ false
Hand os k (Some n) = HandAs os k n

-- the windows that have the keys and the pointer, from their word
pub record Hands (os : List (Option Window)) (w : ℕ) (keys held : Option ℕ) : Type 0 where
  pub sound : (handed os (low w) && handed os (high w)) ≡ true
  pub keys_is : numbered keys ≡ low w
  pub held_is : numbered held ≡ high w

abbrev pub Handed : List (Option Window) → ℕ → Option (Option ℕ × Option ℕ) → Type 0
Handed os w None = (handed os (low w) && handed os (high w)) ≡ false
Handed os w (Some h) = Hands os w h.0 h.1

-- the clipboard, from its word and the bytes from a word of the work on
pub record Clipped (work : List ℕ) (at w : ℕ) (c : Clipboard) : Type 0 where
  pub sound : clipped w ≡ true
  pub owner_is : numbered c.owner ≡ high w
  pub bytes_are : held c.bytes ≡ bytes_in work at (low w)

abbrev pub Clipping : List ℕ → ℕ → ℕ → Option Clipboard → Type 0
Clipping work at w None = clipped w ≡ false
Clipping work at w (Some c) = Clipped work at w c

-- the sizes, where the lent memory has room for them
pub record SizedAs (work : List ℕ) (size : ℕ) (z : Sizes) : Type 0 where
  pub sizes : sizes_of z ≡ sizes_in work
  pub room : start_refusal (sizes_in work) size (length work) ≡ None
  pub few : z.windows ≤ 255

abbrev pub Sized : List ℕ → ℕ → Option Sizes → Type 0
Sized work size None = room_sound work size ≡ false
Sized work size (Some z) = SizedAs work size z

-- a work's head, where it is long enough to have one
abbrev pub Headed : List ℕ → Option Head → Type 0
Headed work None = length work < head_end
Headed work (Some h) = h.work.now ≡ work

-- why nothing can be loaded, as a refusal's number and place: pictures that are too short for sizes in their ranges, or else the work itself
abbrev pub load_refusal : List ℕ → ℕ → ℕ × ℕ
load_refusal work pictures =
    pick (nat_le head_end (length work) && (not (is_some (size_refusal (sizes_in work))) && nat_lt pictures (sizes_in work).dots)) (2, 0) (2, 1)

-- the windows and their order
pub record StackedAs (work : List ℕ) (s : Stack) : Type 0 where
  pub sound : stack_sound work ≡ true
  pub slots : slots_of s ≡ table_in work
  pub order : order_of s ≡ order_in work
  pub limit : s.limit ≡ word work 2

abbrev pub Stacked : List ℕ → Option Stack → Type 0
Stacked work None = stack_sound work ≡ false
Stacked work (Some s) = StackedAs work s

-- the sizes and the state that a work holds, for pictures of so many dots; and the work has room to store it again
pub record LoadedAs (work : List ℕ) (size : ℕ) (z : Sizes) (s : State) : Type 0 where
  pub sound : sound_in work size ≡ true
  pub sizes : sizes_of z ≡ sizes_in work
  pub desk : (p : List ℕ) → desk_of s p ≡ desk_in work p
  pub good : Good (sizes_of z) s size
  pub room : work_room (sizes_of z) ≤ length work

-- a load: nothing of a work that no start has made
abbrev pub Loaded : List ℕ → ℕ → Option (Sizes × State) → Type 0
Loaded work size None = sound_in work size ≡ false
Loaded work size (Some r) = LoadedAs work size r.0 r.1
