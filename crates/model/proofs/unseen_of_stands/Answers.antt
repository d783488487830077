use Rattle.model.proofs.Unseen.{unseen_of}
use Rattle.model.proofs.unseen_of_stands.Goals as goal

pub returns : goal.returns
returns c = λ _. unseen_of _
