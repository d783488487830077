use Rattle.std.proofs.lemmas.Int.{to_z-of_z}
use Rattle.protocol.proofs.tell.write_at.Goals as goal

pub returns : goal.returns
returns c =
    let fx = c.ranges.x in
    let fy = c.ranges.y in
    let x = simp to_z-of_z at c.far.ensures in
    let y = simp to_z-of_z at c.far-2.ensures in
    rw (y, x, c.byte.ensures, c.to.ensures) at c.write.ensures
