use Rattle.desktop.proofs.Lent.{order-kept, pictures-kept}
use Rattle.desktop.proofs.laws.lent_stand.Goals as goal

pub returns : goal.returns
returns c = record { order = order-kept; pictures = pictures-kept }
