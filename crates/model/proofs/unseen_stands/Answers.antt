use Rattle.model.proofs.Unseen.{unseen}
use Rattle.model.proofs.unseen_stands.Goals as goal

pub returns : goal.returns
returns c = unseen
