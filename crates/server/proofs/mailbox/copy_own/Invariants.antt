use Rattle.std.proofs.Common.{◌-◌, length}
use Rattle.server.proofs.Taking.{Copied}
use Rattle.server.proofs.mailbox.copy_own.Given as goal

abbrev pub invariant-copy : goal.invariant-copy
invariant-copy l = Copied l.program l.words l.at l.used l.initial.row l.row

abbrev pub decreases-copy : goal.decreases-copy
decreases-copy l = length l.words - l.at
