use Rattle.std.proofs.Common.{◌&&◌, drop, refl, ap, ◌∙◌}
use Rattle.layout.specs.State.{desk_of}
use Rattle.model.specs.Desk.{sender, window, mine, box_fits}
use Rattle.model.specs.System.{taken}
use Rattle.desktop.proofs.Carrying.{refusal}
use Rattle.protocol.proofs.Rows.{length-numbers}
use Rattle.desktop.proofs.Painted.{put-carried}
use Rattle.desktop.proofs.paint.put.Goals as goal

pub returns-in_default : goal.returns-in_default
unfolding taken sender
returns-in_default c l z g =
    let p = c.args.pictures.now in
    let d = desk_of c.args.s.now p in
    let k = length-numbers 4 c.args.colours.count (drop c.args.colours.from c.args.call.now) in
    refusal z c.args.program c.answer.ensures g
    (ap (λ m. mine d c.args.program c.args.window && box_fits (window d c.args.window) c.args.x c.args.y m 1) k ∙ c.in_default.ensures d p refl) refl

pub returns : goal.returns
returns c l z g =
    let t = c.in-Some.ensures in
    put-carried z g t.0 c.picture.ensures c.answer-2.ensures c.args.call.now c.args.colours (t.1 c.args.pictures.now) l c.span.ensures c.put-taken.ensures.answer c.put-taken.ensures.done
