use Rattle.std.proofs.Common.{refl}
use Rattle.std.proofs.lemmas.Int.{to_z_pos}
use Rattle.layout.specs.State.{desk_of}
use Rattle.damage.proofs.types.Dot.front.Goals as goal

pub returns : goal.returns
returns c p =
    let i = c.args.self.across in
    let j = c.args.self.down in
    simp to_z_pos at (c.front_at.ensures (desk_of c.args.s.now p) p refl)
