use Rattle.std.proofs.Common.{◌≡◌, ◌-◌, ◌*◌, ◌≤◌, length}
use Rattle.region.specs.Boxes.{act}
use Rattle.region.specs.Words.{rects}
use Rattle.region.proofs.Building.{Built}
use Rattle.region.proofs.sweep.Given as goal

abbrev pub invariant-bands : goal.invariant-bands
invariant-bands l = Built (act l.op) (rects l.a) (rects l.b) (rects l.out) l.p l.q l.y l.m l.n × (length l.out ≡ length l.initial.out) × (l.m ≤ l.n) × (2 * l.n ≤ length l.out)

abbrev pub decreases-bands : goal.decreases-bands
decreases-bands l = 4097 - l.y
