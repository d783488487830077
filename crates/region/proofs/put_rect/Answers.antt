use Rattle.std.proofs.Common.{◌+◌, ◌*◌, set, get_or, ap, ◌∙◌, arith}
use Rattle.region.specs.Words.{rects}
use Rattle.region.proofs.Wording.{rects-set, unpacked-packed}
use Rattle.region.proofs.put_rect.Goals as goal

pub returns-clause-boxes : goal.returns-clause-boxes
returns-clause-boxes c =
    ap (λ ws. rects (set (set c.args.s.now (2 * c.args.i) (get_or ws 0 0)) (2 * c.args.i + 1) (get_or ws 1 0))) c.words_of.ensures.are
    ∙ (rects-set c.args.s.now c.args.i _ _
    ∙ ap (set (rects c.args.s.now) c.args.i) (unpacked-packed c.args.r.left c.args.r.top c.args.r.right c.args.r.below (omega arith) (omega arith)))
