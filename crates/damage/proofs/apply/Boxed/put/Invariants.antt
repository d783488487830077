use Rattle.damage.proofs.Drawing.{Drawn}
use Rattle.damage.proofs.apply.Boxed.put.Given as goal

abbrev pub invariant-loop-r : goal.invariant-loop-r
invariant-loop-r l = let s = l.self in Drawn s.screen.wide s.screen.high s.head l.r s.dots.now l.initial.screen l.screen
