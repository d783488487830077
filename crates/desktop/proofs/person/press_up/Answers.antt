use Rattle.desktop.proofs.Hearing.{up-quiet, up-told}
use Rattle.desktop.proofs.person.press_up.Goals as goal

pub returns-in_err-n : goal.returns-in_err-n
returns-in_err-n c z p g = up-quiet z g c.from_residual.ensures c.in_err-n.ensures

pub returns : goal.returns
returns c z p g = up-told z g c.in_ok-n.n c.in_ok-n.w c.in_ok-n.ensures
