use Rattle.std.proofs.Common.{refl}
use Rattle.layout.specs.State.{desk_of}
use Rattle.model.specs.Desk.{sender}
use Rattle.model.specs.System.{taken}
use Rattle.desktop.proofs.Carrying.{refusal}
use Rattle.desktop.proofs.Painted.{fill-carried}
use Rattle.desktop.proofs.paint.fill.Goals as goal

pub returns-in_default : goal.returns-in_default
unfolding taken sender
returns-in_default c z g =
    let p = c.args.pictures.now in
    refusal z c.args.program c.answer.ensures g (c.in_default.ensures (desk_of c.args.s.now p) p refl) refl

pub returns : goal.returns
returns c z g =
    let t = c.in-Some.ensures in
    fill-carried z g t.0 c.picture.ensures c.answer-2.ensures {b = c.args.patch} (t.1 c.args.pictures.now) c.area.ensures c.fill-taken.ensures.answer c.fill-taken.ensures.done
