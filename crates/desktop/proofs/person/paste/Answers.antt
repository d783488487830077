use Rattle.desktop.proofs.Hearing.{paste-quiet, paste-unowned, paste-told}
use Rattle.desktop.proofs.person.paste.Goals as goal

pub returns-in_err-n : goal.returns-in_err-n
returns-in_err-n c z p g = paste-quiet z g c.from_residual.ensures c.in_err-n.ensures

pub returns-in_err-s : goal.returns-in_err-s
returns-in_err-s c z p g = paste-unowned z g c.in_ok-n.n c.in_ok-n.w c.from_residual-in_err-s.ensures c.in_ok-n.ensures c.in_err-s.was

pub returns : goal.returns
returns c z p g = paste-told z g c.in_ok-n.n _ c.in_ok-n.w c.in_ok-n.ensures c.in_ok-s.was c.whole-bytes.ensures.value c.whole-bytes.ensures.there
