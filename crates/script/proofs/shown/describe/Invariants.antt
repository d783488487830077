use Rattle.std.proofs.Common.{ℕ, ◌-◌, List, length, Option}
use Rattle.model.specs.Desk.{Event}
use Rattle.script.specs.Rows.{Reads}
use Rattle.script.proofs.shown.describe.Given as goal

-- what is read from here on is the end of what is read from the start
abbrev pub invariant-loop-at : goal.invariant-loop-at
invariant-loop-at l = (es : List Event) (fault : Option ℕ) → Reads l.bytes l.at es fault → (all : List Event) × Reads l.bytes 0 all fault

abbrev pub decreases-loop-at : goal.decreases-loop-at
decreases-loop-at l = length l.bytes - l.at
