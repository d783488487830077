use Rattle.region.specs.Words.{rects}
use Rattle.region.proofs.Walks.{Changed}
use Rattle.region.proofs.change_boxes.Given as goal

abbrev pub invariant-loop-i : goal.invariant-loop-i
invariant-loop-i g l = Changed (λ r q. goal.F-post g l.f r q) l.i (rects l.initial.s) (rects l.s)
