use Rattle.server.proofs.Serving.{all-served, all-unseen, order-lent, pictures-lent}
use Rattle.server.proofs.laws.histories_stand.Goals as goal

pub returns : goal.returns
returns c = record { served = all-served; unseen = all-unseen; order = order-lent; pictures = pictures-lent }
