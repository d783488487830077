use Rattle.std.proofs.Common.{length}
use Rattle.damage.proofs.Showing.{Going}
use Rattle.damage.proofs.head.Size.put_boxes.Given as goal

abbrev pub invariant-boxes : goal.invariant-boxes
invariant-boxes l = Going l.self.wide l.self.high l.sent l.rest l.initial.screen l.screen

abbrev pub decreases-boxes : goal.decreases-boxes
decreases-boxes l = length l.rest
