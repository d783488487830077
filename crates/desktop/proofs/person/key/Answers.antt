use Rattle.desktop.proofs.Hearing.{key-quiet, key-told}
use Rattle.desktop.proofs.person.key.Goals as goal

pub returns-in_err-n : goal.returns-in_err-n
returns-in_err-n c z p g = key-quiet z g c.from_residual.ensures c.in_err-n.ensures

pub returns : goal.returns
returns c z p g = key-told z g c.in_ok-n.n c.in_ok-n.w c.in_ok-n.ensures
