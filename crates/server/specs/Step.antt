-- One event on the state and all that is lent.
use Rattle.std.specs.Prelude.{◌≡◌, ℕ, ◌+◌, ◌≤◌, Bool, true, false, List, length, Some, None, Option}
use Rattle.model.specs.Desk.{Sizes, Event, after}
use Rattle.protocol.specs.Added.{Added}
use Rattle.protocol.specs.declared.types.Word.{Word}
use Rattle.protocol.specs.declared.types.Word.TheVariants.{No, Done, Made, At, Pressed, Typed, Pasted}
use Rattle.layout.specs.Budget.{sent_room, words_room}
use Rattle.layout.specs.State.{desk_of, Good}
use Rattle.layout.specs.declared.state.State.{State}
use Rattle.desktop.specs.declared.told.Told.{Told}
use Rattle.damage.specs.Encode.{encode, Sent}
use Rattle.damage.specs.Cover.{sends_at}
use Rattle.server.specs.Told.{told_bytes, AllCarried}
use Rattle.server.specs.declared.step.Written.{Written}

-- a word that refuses nothing
abbrev pub grants : Word → Bool
grants No = false
grants Done = true
grants (Made n) = true
grants (At n x y) = true
grants (Pressed n b) = true
grants (Typed n k) = true
grants (Pasted n l) = true

-- whether an event was taken, by what is told
abbrev pub granted_by : Option Told → Bool
granted_by None = true
granted_by (Some t) = grants t.word

-- the event e led from the state s and the pictures p to s' and p', and what it sends and tells was added
pub record Stepped (z : Sizes) (e : Event) (s : State) (p sent words : List ℕ) (from : Written) (s' : State) (p' sent' words' : List ℕ) (to : Written) : Type 0 where
  pub good : Good z s' (length p')
  pub desk : desk_of s' p' ≡ (after z (desk_of s p) e).0
  pub sent_is : Sent from.sent to.sent (encode (sends_at z (desk_of s p) e)) sent sent'
  pub words_are : Added from.words to.words (told_bytes (after z (desk_of s p) e).1) words words'
  pub told : AllCarried (after z (desk_of s p) e).1
  pub sent_low : to.sent ≤ from.sent + sent_room z
  pub words_low : to.words ≤ from.words + words_room
