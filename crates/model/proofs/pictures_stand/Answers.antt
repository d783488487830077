use Rattle.model.proofs.Pictures.{by-owner, by-paint}
use Rattle.model.proofs.pictures_stand.Goals as goal

pub returns : goal.returns
returns c = record { owner = by-owner; paint = by-paint }
