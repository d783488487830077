use Rattle.protocol.proofs.Fitting.{fits-carried}
use Rattle.protocol.proofs.laws.fits_stand.Goals as goal

pub returns : goal.returns
returns c = fits-carried
