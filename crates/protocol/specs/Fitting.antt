-- What bytes carry is what the promises of a system ask of an event.
use Rattle.model.specs.Desk.{Sizes, Event}
use Rattle.model.specs.Promise.{Fits}
use Rattle.protocol.specs.Laws.{Carried}

unfoldable pub FitsCarried : Type 0
FitsCarried = (z : Sizes) (e : Event) → (Carried z.programs e → Fits z e) × (Fits z e → Carried z.programs e)
