use Rattle.std.proofs.Common.{◌-◌, length}
use Rattle.screen.proofs.report.tell_own.Given as goal

abbrev pub decreases-loop-word : goal.decreases-loop-word
decreases-loop-word l = length l.source - l.at
