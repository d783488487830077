-- An event that was carried out, from one state to another.
use Rattle.std.specs.Prelude.{◌≡◌, ℕ, Bool, List}
use Rattle.model.specs.Desk.{after}
use Rattle.model.specs.System.{taken}
use Rattle.protocol.specs.Meaning.{meaning}
use Rattle.protocol.specs.declared.types.Event.{Event}
use Rattle.layout.specs.Sizes.{sizes_of}
use Rattle.layout.specs.State.{desk_of}
use Rattle.layout.specs.declared.sizes.Sizes.{Sizes}
use Rattle.layout.specs.declared.state.State.{State}

-- the event e of the bytes bs led from the state s and the pictures p to s' and p'; took says whether it was taken
pub record Step (z : Sizes) (e : Event) (took : Bool) (s s' : State) (p' bs p : List ℕ) : Type 0 where
  pub desk : desk_of s' p' ≡ (after (sizes_of z) (desk_of s p) (meaning bs e)).0
  pub taken : took ≡ taken (sizes_of z) (desk_of s p) (meaning bs e)

-- there are such bytes and pictures
abbrev pub Stepped : Sizes → Event → Bool → State → State → List ℕ → Type 0
Stepped z e took s s' p' = (bs : List ℕ) × (p : List ℕ) × Step z e took s s' p' bs p
