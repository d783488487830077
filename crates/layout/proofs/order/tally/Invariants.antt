use Rattle.std.proofs.Common.{take}
use Rattle.stack.specs.View.{order_of}
use Rattle.layout.specs.Loads.{Tally}
use Rattle.layout.proofs.order.tally.Given as goal

abbrev pub invariant-loop-n : goal.invariant-loop-n
invariant-loop-n l = Tally l.s.limit (take l.n-index (order_of l.s)) l.seen
