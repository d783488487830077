use Rattle.std.proofs.Common.{◌+◌, sym, subst, arith}
use Rattle.geometry.specs.declared.Rect.{Rect}
use Rattle.geometry.specs.Boxes.{blank}
use Rattle.region.specs.Words.{rects}
use Rattle.region.proofs.Wording.{length-rects}
use Rattle.region.proofs.Walks.{Changed, changed_next, changed-all}
use Rattle.region.proofs.change_boxes.Goals as goal

pub loop-i-preserved : goal.loop-i-preserved
loop-i-preserved g c =
    subst (Changed (λ r q. g.F.Fn.post c.args.f (r, tt) q) (c.loop-i.i + 1) (rects c.args.s.now)) (sym c.put_rect.ensures.boxes)
    (changed_next _ c.loop-i.i (rects c.args.s.now) (rects c.loop-i.s) blank c.f.result c.loop-i.invariant (omega (arith, length-rects c.args.s.now))
    (subst (λ (r : Rect). g.F.Fn.post c.args.f (r, tt) c.f.result) c.rect_at.ensures c.f.ensures))

pub returns : goal.returns
returns g c = changed-all _ c.loop-i.i (rects c.args.s.now) (rects c.loop-i.s) c.loop-i.invariant (omega (arith, length-rects c.args.s.now))
