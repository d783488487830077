use Rattle.std.proofs.Common.{length}
use Rattle.damage.proofs.Walking.{Passed}
use Rattle.damage.proofs.head.Size.count.Given as goal

abbrev pub invariant-boxes : goal.invariant-boxes
invariant-boxes l = Passed l.self.wide l.self.high l.sent l.rest l.boxes l.dots

abbrev pub decreases-boxes : goal.decreases-boxes
decreases-boxes l = length l.rest
