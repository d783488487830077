use Rattle.std.proofs.Common.{◌-◌, length}
use Rattle.screen.proofs.report.tell_all.Given as goal

abbrev pub decreases-loop-at : goal.decreases-loop-at
decreases-loop-at l = length l.source - l.at
