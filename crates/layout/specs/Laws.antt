-- Laws of the head of a work.
use Rattle.std.specs.Prelude.{◌≡◌, ℕ, ◌+◌, ◌*◌, ◌<◌, ◌≤◌, true, ◌⊎◌, List, length, Some, None, Option}
use Rattle.model.specs.Sound.{Sound}
use Rattle.layout.specs.declared.sizes.Sizes.{Sizes}
use Rattle.layout.specs.declared.state.State.{State}
use Rattle.layout.specs.Sizes.{sizes_of}
use Rattle.layout.specs.State.{desk_of, Good}
use Rattle.layout.specs.Budget.{work_room}
use Rattle.layout.specs.Head.{order_at, clip_at, table_at, spare_at, word, low, high, byte_in, sizes_in, desk_in, sound_in}
use Rattle.layout.specs.Loads.{Loaded}
use Rattle.layout.specs.Stored.{Stored}

-- a work that passes the tests holds a sound desk, whatever the pictures hold
unfoldable pub SoundWorks : Type 0
SoundWorks = (work : List ℕ) (size : ℕ) → sound_in work size ≡ true → (p : List ℕ) → Sound (sizes_in work) (desk_in work p)

-- an entry that begins at a word k is of no window in both, or the same in both
abbrev pub SameEntry : List ℕ → List ℕ → ℕ → Type 0
SameEntry v w k =
    ((high (word v k) ≡ 0) × (high (word w k) ≡ 0)) ⊎ ((word v k ≡ word w k) × (word v (k + 1) ≡ word w (k + 1)) × (word v (k + 2) ≡ word w (k + 2)))

-- two works have the same sizes, pointer, hands and clipboard, the same numbers in the order, the same bytes in the clipboard, and the same windows.
-- Nothing is said of the words behind those: what is spare in the head, the rest of the order and of the clipboard, the entries of windows that are not there
-- or can't be made, and all behind the head
pub record Agree (v w : List ℕ) : Type 0 where
  pub first : (k : ℕ) → k < order_at → word v k ≡ word w k
  pub order : (i : ℕ) → i < word v 9 → byte_in v order_at i ≡ byte_in w order_at i
  pub clip : (i : ℕ) → i < low (word v 8) → byte_in v clip_at i ≡ byte_in w clip_at i
  pub table : (n : ℕ) → n < word v 2 → SameEntry v w (table_at + 3 * n)

pub record Alike (v w : List ℕ) : Type 0 where
  pub sizes : sizes_in v ≡ sizes_in w
  pub desk : (p : List ℕ) → desk_in v p ≡ desk_in w p
  pub sound : (size : ℕ) → length v ≡ length w → sound_in v size ≡ sound_in w size

-- what is spare does not matter
unfoldable pub Spare : Type 0
Spare = (v w : List ℕ) → Agree v w → Alike v w

-- so a sound work may have anything from the spare words on
unfoldable pub SpareWords : Type 0
SpareWords =
    (v w : List ℕ) (size : ℕ) → sound_in v size ≡ true → length v ≡ length w → ((k : ℕ) → k < spare_at → word v k ≡ word w k) → Alike v w

-- what was loaded is what was stored
abbrev pub Reloaded : Sizes → State → Option (Sizes × State) → Type 0
Reloaded z s None = ⊥
Reloaded z s (Some r) = (sizes_of r.0 ≡ sizes_of z) × ((p : List ℕ) → desk_of r.1 p ≡ desk_of s p)

unfoldable pub Reloads : Type 0
Reloads =
    (z : Sizes) (s : State) (work work' : List ℕ) (size : ℕ) (r : Option (Sizes × State)) → Stored (sizes_of z) s work work' → Good (sizes_of z) s size →
    work_room (sizes_of z) ≤ length work' → Loaded work' size r → Reloaded z s r
