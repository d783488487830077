use Rattle.std.proofs.Common.{arith}
use Rattle.model.specs.Desk.{in_window}
use Rattle.std.proofs.lemmas.Int.{to_z-of_z}
use Rattle.stack.proofs.state.Window.covers.Goals as goal

pub returns-then-within : goal.returns-then-within
unfolding in_window
returns-then-within c p = grind (arith, to_z-of_z)

pub returns-else-within : goal.returns-else-within
unfolding in_window
returns-else-within c p = grind (arith, to_z-of_z)
