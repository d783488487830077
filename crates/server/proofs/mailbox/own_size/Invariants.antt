use Rattle.std.proofs.Common.{◌-◌, length}
use Rattle.server.proofs.Taking.{Counted}
use Rattle.server.proofs.mailbox.own_size.Given as goal

abbrev pub invariant-measure : goal.invariant-measure
invariant-measure l = Counted l.program l.words l.at l.size

abbrev pub decreases-measure : goal.decreases-measure
decreases-measure l = length l.words - l.at
