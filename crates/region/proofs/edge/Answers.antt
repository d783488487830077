use Rattle.std.proofs.Common.{sym, ap, ◌∙◌, arith}
use Rattle.std.proofs.lemmas.List.{get_or_past}
use Rattle.geometry.specs.declared.Rect.{Rect}
use Rattle.geometry.specs.Boxes.{blank}
use Rattle.region.specs.Boxes.{edges, none}
use Rattle.region.specs.Words.{rects}
use Rattle.region.proofs.Wording.{length-rects}
use Rattle.region.proofs.Pairs.{length-edges, at-even, at-odd}
use Rattle.region.proofs.edge.Goals as goal

pub returns-then-k-a : goal.returns-then-k-a
returns-then-k-a c = sym (get_or_past (edges (rects c.args.a.now)) c.args.k none (omega (arith, length-edges (rects c.args.a.now), length-rects c.args.a.now)))

pub returns-then-k-eq0 : goal.returns-then-k-eq0
returns-then-k-eq0 c =
    ap (λ (r : Rect). r.left) c.rect_at-r.ensures
    ∙ at-even (rects c.args.a.now) c.args.k none blank c.if-k-eq0.true (omega (arith, length-rects c.args.a.now))

pub returns-else-k-eq0 : goal.returns-else-k-eq0
returns-else-k-eq0 c =
    ap (λ (r : Rect). r.right) c.rect_at-r.ensures
    ∙ at-odd (rects c.args.a.now) c.args.k none blank c.if-k-eq0.false (omega (arith, length-rects c.args.a.now))
