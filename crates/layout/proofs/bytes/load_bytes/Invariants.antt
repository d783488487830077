use Rattle.std.proofs.Common.{◌≡◌}
use Rattle.few.specs.Held.{held}
use Rattle.layout.specs.Head.{bytes_in}
use Rattle.layout.proofs.bytes.load_bytes.Given as goal

abbrev pub invariant-loop-i : goal.invariant-loop-i
invariant-loop-i g l = held l.bytes ≡ bytes_in l.work l.at l.i
