use Rattle.model.proofs.Sound.{ordered}
use Rattle.model.proofs.order_stands.Goals as goal

pub returns : goal.returns
returns c = ordered
