use Rattle.layout.proofs.Spare.{spare}
use Rattle.layout.proofs.laws.spare_stands.Goals as goal

pub returns : goal.returns
returns c = spare
