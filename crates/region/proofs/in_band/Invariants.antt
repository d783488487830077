use Rattle.std.proofs.Common.{◌≡◌}
use Rattle.region.specs.Checks.{in_band}
use Rattle.region.specs.Words.{rects, boxes_left}
use Rattle.region.proofs.in_band.Given as goal

abbrev pub invariant-loop-r : goal.invariant-loop-r
invariant-loop-r l =
    (goal.iterator-loop-r).can_next l.r-iterator × (goal.iterator-loop-r).is_finite l.r-iterator
    × (in_band l.top l.below 0 (rects l.s) ≡ in_band l.top l.below l.low (boxes_left l.r-iterator))
