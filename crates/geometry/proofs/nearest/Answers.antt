use Rattle.std.proofs.Common.{arith}
use Rattle.std.proofs.lemmas.Int.{ints, clamps}
use Rattle.model.specs.Basics.{pick}
use Rattle.model.specs.Desk.{clamp}
use Rattle.geometry.proofs.nearest.Goals as goal

pub returns : goal.returns
unfolding clamp
returns c = grind (arith, ints, clamps, pick)
