-- THE PROMISE of the two calls, over all that is lent.
use Rattle.std.specs.Prelude.{◌≡◌, ℕ, Bool, true, false, List, length, Some, None, Ok, Err, Result}
use Rattle.model.specs.Desk.{Desk, Sizes, run, empty}
use Rattle.protocol.specs.Added.{Added}
use Rattle.layout.specs.Refusals.{numbered, numbered_one}
use Rattle.layout.specs.Budget.{start_refusal}
use Rattle.layout.specs.Head.{sizes_in, desk_in, sound_in}
use Rattle.layout.specs.Loads.{load_refusal}
use Rattle.layout.specs.declared.budget.Lent.{Lent}
use Rattle.layout.specs.declared.sizes.Refusal.{Refusal}
use Rattle.damage.specs.Encode.{encode, Sent}
use Rattle.server.specs.Course.{Reading, read_call, holding, sent_by, told_by}
use Rattle.server.specs.Told.{told_bytes, AllCarried}
use Rattle.server.specs.declared.outcome.Outcome.{Outcome}

-- how much is lent
abbrev pub lent_of : List ℕ → List ℕ → List ℕ → List ℕ → Lent
lent_of pictures work sent words = record { pictures = length pictures; work = length work; sent = length sent; words = length words }

-- what was read of a call was carried out: from the desk d to d'; sent and words are filled with what the system sends and tells, event by event; behind its
-- part words is as it was, and of sent nothing is said there. Each word fits its bytes
pub record Ran (z : Sizes) (read : Reading) (d : Desk) (sent words : List ℕ) (d' : Desk) (sent' words' : List ℕ) (r : Outcome) : Type 0 where
  pub desk : d' ≡ run z d read.events
  pub sent_is : Sent 0 r.sent (encode (sent_by z (holding d) read.events)) sent sent'
  pub words_are : Added 0 r.words (told_bytes (told_by z (holding d) read.events)) words words'
  pub told : AllCarried (told_by z (holding d) read.events)
  pub events : r.events ≡ length read.events
  pub bytes : r.read ≡ read.read
  pub refusal : numbered r.refusal ≡ read.refusal

-- THE CALL, on memory that a start and events have left
pub record Called (call pictures work sent words pictures' work' sent' words' : List ℕ) (r : Outcome) : Type 0 where
  pub sizes : sizes_in work' ≡ sizes_in work
  pub sound : sound_in work' (length pictures') ≡ true
  pub ran : Ran (sizes_in work) (read_call (sizes_in work) call (lent_of pictures work sent words)) (desk_in work pictures) sent words (desk_in work' pictures') sent' words' r

-- a call on any other memory is refused whole, and nothing changes
pub record Refused (pictures work sent words pictures' work' sent' words' : List ℕ) (r : Outcome) : Type 0 where
  pub pictures_same : pictures' ≡ pictures
  pub work_same : work' ≡ work
  pub sent_same : sent' ≡ sent
  pub words_same : words' ≡ words
  pub why : numbered r.refusal ≡ Some (load_refusal work (length pictures))
  pub no_events : r.events ≡ 0
  pub none_read : r.read ≡ 0
  pub none_sent : r.sent ≡ 0
  pub none_told : r.words ≡ 0

-- by whether the work is sound
abbrev pub Promise : Bool → List ℕ → List ℕ → List ℕ → List ℕ → List ℕ → List ℕ → List ℕ → List ℕ → List ℕ → Outcome → Type 0
Promise true call pictures work sent words pictures' work' sent' words' r = Called call pictures work sent words pictures' work' sent' words' r
Promise false call pictures work sent words pictures' work' sent' words' r = Refused pictures work sent words pictures' work' sent' words' r

abbrev pub Promised : List ℕ → List ℕ → List ℕ → List ℕ → List ℕ → List ℕ → List ℕ → List ℕ → List ℕ → Outcome → Type 0
Promised call pictures work sent words pictures' work' sent' words' r =
    Promise (sound_in work (length pictures)) call pictures work sent words pictures' work' sent' words' r

-- THE START: an empty desk of the sizes, whatever the slices held; the pictures are left as they are
pub record Begun (z : Sizes) (pictures pictures' work' : List ℕ) : Type 0 where
  pub sizes : sizes_in work' ≡ z
  pub sound : sound_in work' (length pictures') ≡ true
  pub desk : desk_in work' pictures' ≡ empty z
  pub same : pictures' ≡ pictures

abbrev pub Started : Sizes → List ℕ → List ℕ → List ℕ → List ℕ → Result (Unit {0}) Refusal → Type 0
Started z pictures work pictures' work' (Ok u) = (start_refusal z (length pictures) (length work) ≡ None) × Begun z pictures pictures' work'
Started z pictures work pictures' work' (Err why) = (start_refusal z (length pictures) (length work) ≡ Some (numbered_one why)) × (pictures' ≡ pictures) × (work' ≡ work)
