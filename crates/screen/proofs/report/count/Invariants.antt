use Rattle.std.proofs.Common.{◌-◌, length}
use Rattle.screen.proofs.report.count.Given as goal

abbrev pub decreases-loop-end : goal.decreases-loop-end
decreases-loop-end l = length l.words - l.at
