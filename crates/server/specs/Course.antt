-- The events of a call, as its bytes and the room in the lent slices have them, and what they send and tell together.
use Rattle.std.specs.Prelude.{ℕ, zero, suc, ◌+◌, List, [], ◌∷◌, ◌++◌, length, Some, None, Ok, Err, Option, nat_lt}
use Rattle.model.specs.Basics.{pick}
use Rattle.model.specs.Desk.{Desk, Sizes, Event, Word}
use Rattle.model.specs.Promise.{Box}
use Rattle.model.specs.System.{System, happens, sends, tells}
use Rattle.protocol.specs.Fields.{Found}
use Rattle.protocol.specs.Formats.{read_event}
use Rattle.layout.specs.Budget.{sent_room, words_room, event_refusal}
use Rattle.layout.specs.declared.budget.Lent.{Lent}
use Rattle.layout.specs.declared.budget.Used.{Used}
use Rattle.damage.specs.Cover.{cover}

-- the events that are carried out, how many bytes they have, and why the rest is not read: a number and a place
pub record Reading : Type 0 where
  pub events : List Event
  pub read : ℕ
  pub refusal : Option (ℕ × ℕ)

-- nothing is read from the byte k on
abbrev pub stop : ℕ → Option (ℕ × ℕ) → Reading
stop k r = record { events = []; read = k; refusal = r }

-- an event, and what is read behind it
abbrev pub before : Event → Reading → Reading
before e r = record { events = e ∷ r.events; read = r.read; refusal = r.refusal }

-- an event that was found at the byte k, and what is read from its end on; or a fault
abbrev pub next : ℕ → (ℕ → Reading) → Found Event → Reading
next k g (Ok p) = before p.0 (g p.1)
next k g (Err m) = stop k (Some (3, m))

-- a refusal comes before anything is read
abbrev pub unless : ℕ → Option (ℕ × ℕ) → Reading → Reading
unless k (Some why) r = stop k (Some why)
unless k None r = r

-- what is set apart of sent and words for one event more
abbrev pub one_more : Sizes → Used → Used
one_more z u = record { sent = u.sent + sent_room z; words = u.words + words_room }

-- at most f events from the byte k on, where so much of sent and words is set apart for those before. Before each event the room is looked at; an event
-- that is refused ends the call
unfoldable pub reading : ℕ → Sizes → List ℕ → Lent → ℕ → Used → Reading
reading zero z bs l k u = stop k None
reading (suc f) z bs l k u =
    pick (nat_lt k (length bs))
    (unless k (event_refusal z l u) (next k (λ m. reading f z bs l m (one_more z u)) (read_event z.built z.programs bs k)))
    (stop k None)

abbrev pub unused : Used
unused = record { sent = 0; words = 0 }

-- a whole call; each event has a byte at least
abbrev pub read_call : Sizes → List ℕ → Lent → Reading
read_call z bs l = reading (length bs) z bs l 0 unused

-- the system over a desk
abbrev pub holding : Desk → System
holding d = record { desk = d; sent = []; told = [] }

-- what events send, one after another, and what they tell
unfoldable pub sent_by : Sizes → System → List Event → List Box
sent_by z s [] = []
sent_by z s (e ∷ es) = sends (happens cover z s e) ++ sent_by z (happens cover z s e) es

unfoldable pub told_by : Sizes → System → List Event → List (ℕ × Word)
told_by z s [] = []
told_by z s (e ∷ es) = tells (happens cover z s e) ++ told_by z (happens cover z s e) es
