use Rattle.std.proofs.Common.{w32, SFits, rules}
use Rattle.std.proofs.lemmas.Int.{to_z-of_z}
use Rattle.protocol.proofs.write_word.Goals as goal

pub returns-in-At : goal.returns-in-At
returns-in-At c =
    let fx : SFits w32 c.in-At.x = search rules in
    let fy : SFits w32 c.in-At.y = search rules in
    rw c.in-At.is (simp to_z-of_z at c.write_at.ensures)
