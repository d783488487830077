use Rattle.region.proofs.Wording.{rects-part, length_part}
use Rattle.region.proofs.Band.words.Goals as goal

pub returns-clause-boxes : goal.returns-clause-boxes
returns-clause-boxes c = rects-part c.args.self.from c.args.self.end c.args.a.now

pub returns-clause-long : goal.returns-clause-long
returns-clause-long c = length_part c.args.self.from c.args.self.end c.args.a.now c.args.self.ordered c.requires
