use Rattle.model.proofs.Covers.{every-cover}
use Rattle.model.proofs.covers_stand.Goals as goal

pub returns : goal.returns
returns c = every-cover
