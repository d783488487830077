use Rattle.std.proofs.Common.{sym, ◌∙◌, arith}
use Rattle.geometry.specs.Boxes.{blank}
use Rattle.std.proofs.lemmas.List.{get_or_past}
use Rattle.region.specs.Words.{rects}
use Rattle.region.proofs.Wording.{rects-at, length-rects}
use Rattle.region.proofs.rect_at.Goals as goal

pub returns-then-i-s : goal.returns-then-i-s
returns-then-i-s c = sym (get_or_past (rects c.args.s.now) c.args.i blank (omega (arith, length-rects c.args.s.now)))

pub returns : goal.returns
returns c = c.rect_of.ensures ∙ rects-at c.args.s.now c.args.i (omega arith)
