use Rattle.std.proofs.Common.{w16, SFits, rules}
use Rattle.std.proofs.lemmas.Int.{to_z-of_z}
use Rattle.desktop.proofs.Hearing.{down-quiet, down-told}
use Rattle.desktop.proofs.person.press_down.Goals as goal

pub returns-in_err-n : goal.returns-in_err-n
returns-in_err-n c z p g =
    let fx : SFits w16 c.args.s.now.x = search rules in
    let fy : SFits w16 c.args.s.now.y = search rules in
    down-quiet z g c.from_residual.ensures (search rules) (simp to_z-of_z at c.in_err-n.ensures)

pub returns : goal.returns
returns c z p g =
    let fx : SFits w16 c.args.s.now.x = search rules in
    let fy : SFits w16 c.args.s.now.y = search rules in
    down-told z g c.in_ok-n.n c.in_ok-n.w (search rules) (simp to_z-of_z at c.in_ok-n.ensures)
