use Rattle.std.proofs.Common.{◌-◌, ◌*◌, ◌/◌, ◌≤◌, length}
use Rattle.region.specs.Words.{rects}
use Rattle.region.proofs.Testing.{Tested}
use Rattle.region.proofs.is_region.Given as goal

abbrev pub invariant-bands : goal.invariant-bands
invariant-bands l = Tested (rects l.a) l.m l.p l.y × (l.m ≤ l.p) × (2 * l.p ≤ length l.a)

abbrev pub decreases-bands : goal.decreases-bands
decreases-bands l = length l.a / 2 - l.p
