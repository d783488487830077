use Rattle.std.proofs.Common.{◌≡◌, ◌+◌, ◌-◌, ◌*◌, ◌/◌, length, take, drop}
use Rattle.region.specs.Boxes.{edges, act, Rows}
use Rattle.region.specs.Words.{rects}
use Rattle.region.proofs.Sweeping.{At}
use Rattle.region.proofs.combine_row.Given as goal

abbrev pub invariant-sweep : goal.invariant-sweep
invariant-sweep l =
    At (act l.op) (edges (rects l.a)) (edges (rects l.b)) (edges (rects l.out)) l.p l.q l.n ×
    Rows l.top l.below (take ((l.n + 1) / 2) (rects l.out)) ×
    (drop ((l.n + 1) / 2) (rects l.out) ≡ drop ((l.n + 1) / 2) (rects l.initial.out))

abbrev pub decreases-sweep : goal.decreases-sweep
decreases-sweep l = 2 * length (rects l.a) + 2 * length (rects l.b) - (l.p + l.q)
