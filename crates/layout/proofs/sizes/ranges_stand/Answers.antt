use Rattle.layout.proofs.Ranges.{ranges}
use Rattle.layout.proofs.sizes.ranges_stand.Goals as goal

pub returns : goal.returns
returns c = ranges
