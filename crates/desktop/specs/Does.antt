-- One event on the state and the pictures.
use Rattle.std.specs.Prelude.{◌≡◌, ℕ, Bool, true, false, List, [], ◌∷◌, length, Some, None, Option}
use Rattle.model.specs.Basics.{pick}
use Rattle.model.specs.Desk as desk
use Rattle.model.specs.Desk.{Sizes, Event, after}
use Rattle.model.specs.System.{taken}
use Rattle.protocol.specs.Meaning.{word_meaning, word_had}
use Rattle.layout.specs.declared.state.State.{State}
use Rattle.layout.specs.State.{desk_of, clip_in, Good}
use Rattle.protocol.specs.declared.types.Word.TheVariants.{Done, No}
use Rattle.desktop.specs.declared.told.Told.{Told}

-- what is told, with the bytes of the clipboard
abbrev pub told_of : List ℕ → Option Told → List (ℕ × desk.Word)
told_of bytes None = []
told_of bytes (Some t) = (t.program, word_meaning bytes t.word) ∷ []

-- whether all that a word points to lies in those bytes
abbrev pub told_had : List ℕ → Option Told → Bool
told_had bytes None = true
told_had bytes (Some t) = word_had bytes t.word

-- the answer to a request of c
abbrev pub answered : ℕ → Bool → Option Told
answered c taken = Some (record { program = c; word = pick taken Done No })

-- the event e led from the state s and the pictures p to s' and p', and r was told: what the desk does and tells. A request that is refused leaves the
-- lent pictures as they were, to the last element
pub record Carried (z : Sizes) (e : Event) (s : State) (p : List ℕ) (s' : State) (p' : List ℕ) (r : Option Told) : Type 0 where
  pub desk : desk_of s' p' ≡ (after z (desk_of s p) e).0
  pub told : told_of s.clip.bytes.items r ≡ (after z (desk_of s p) e).1
  pub good : Good z s' (length p')
  pub still : taken z (desk_of s p) e ≡ false → p' ≡ p

-- the same, and the bytes that are told lie in those that the clipboard held
pub record CarriedOut (z : Sizes) (e : Event) (s : State) (p : List ℕ) (s' : State) (p' : List ℕ) (r : Option Told) : Type 0 where
  pub carried : Carried z e s p s' p' r
  pub had : told_had (clip_in s) r ≡ true

-- that of every good state with pictures of such a length: what each function of an event promises
abbrev pub Does : Sizes → Event → State → List ℕ → State → List ℕ → Option Told → Type 0
Does z e s p s' p' r = Good z s (length p) → CarriedOut z e s p s' p' r

-- that of an event that changes no picture, whatever the pictures are
abbrev pub DoesUnpainted : Sizes → Event → State → State → Option Told → Type 0
DoesUnpainted z e s s' r = (p : List ℕ) → Does z e s p s' p r
