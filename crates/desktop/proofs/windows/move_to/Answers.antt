use Rattle.std.proofs.Common.{refl}
use Rattle.std.proofs.lemmas.Int.{to_z-of_z}
use Rattle.layout.specs.State.{desk_of}
use Rattle.desktop.proofs.Arranging.{moved}
use Rattle.desktop.proofs.windows.move_to.Goals as goal

pub returns : goal.returns
returns c z p g =
    let m = c.move_to.ensures in
    let fx = c.ranges.x in
    let fy = c.ranges.y in
    let d = desk_of c.args.s.now p in
    moved z c.args.s.now c.move_to.new.self p g m.order m.limit c.args.program c.args.window c.args.x c.args.y _ _ c.move_to.result c.answer.ensures (m.answer d p refl) (simp to_z-of_z at (m.windows d p refl)) m.slots
