use Rattle.std.proofs.Common.{◌∙◌}
use Rattle.region.specs.Words.{rects}
use Rattle.region.proofs.Measuring.{measured}
use Rattle.region.proofs.count.Goals as goal

pub returns : goal.returns
returns c = let k = c.is_region.ensures.0 c.if-not-is_region.false in (k, c.dots_of.ensures ∙ measured (rects c.args.a.now) k)
