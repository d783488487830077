use Rattle.std.proofs.Common.{refl}
use Rattle.layout.specs.State.{desk_of}
use Rattle.desktop.proofs.Arranging.{shown}
use Rattle.desktop.proofs.windows.show.Goals as goal

pub returns : goal.returns
returns c z p g =
    let m = c.show.ensures in
    let d = desk_of c.args.s.now p in
    shown z c.args.s.now c.show.new.self p g m.order m.limit c.args.program c.args.window c.args.on c.show.result c.answer.ensures (m.answer d p refl) (m.windows d p refl) m.slots
