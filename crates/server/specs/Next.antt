-- What stands next in a call.
use Rattle.std.specs.Prelude.{◌≡◌, ℕ, ◌<◌, ◌≤◌, true, List, length, Some, None, Ok, Err, Result}
use Rattle.model.specs.Desk.{Sizes}
use Rattle.protocol.specs.Formats.{read_event}
use Rattle.protocol.specs.Meaning.{meaning, had}
use Rattle.protocol.specs.declared.types.Event.{Event}
use Rattle.layout.specs.Budget.{event_refusal}
use Rattle.layout.specs.Refusals.{numbered_one}
use Rattle.layout.specs.declared.budget.Lent.{Lent}
use Rattle.layout.specs.declared.budget.Used.{Used}
use Rattle.layout.specs.declared.sizes.Refusal.{Refusal}
use Rattle.server.specs.Course.{Reading, stop, next, unless}

-- the event e stands at the byte k of the call bs and ends at the byte m, and there is room for what it may send and tell
pub record Stands (z : Sizes) (bs : List ℕ) (k : ℕ) (l : Lent) (u : Used) (e : Event) (m : ℕ) : Type 0 where
  pub room : event_refusal z l u ≡ None
  pub value : Ok (meaning bs e, m) ≡ read_event z.built z.programs bs k
  pub had : had bs e ≡ true
  pub onward : k < m
  pub within : m ≤ length bs

-- the event that stands there, or why nothing is read from the byte k on
abbrev pub Next : Sizes → List ℕ → ℕ → Lent → Used → Result (Event × ℕ) Refusal → Type 0
Next z bs k l u (Ok r) = Stands z bs k l u r.0 r.1
Next z bs k l u (Err why) = (go : ℕ → Reading) → unless k (event_refusal z l u) (next k go (read_event z.built z.programs bs k)) ≡ stop k (Some (numbered_one why))
