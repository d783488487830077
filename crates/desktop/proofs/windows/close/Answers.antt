use Rattle.std.proofs.Common.{refl, ap, ◌∙◌}
use Rattle.layout.specs.State.{desk_of}
use Rattle.model.specs.Desk.{sender, without}
use Rattle.model.specs.System.{taken}
use Rattle.stack.specs.View.{packed}
use Rattle.desktop.proofs.Carrying.{refusal}
use Rattle.desktop.proofs.Making.{closed-carried}
use Rattle.desktop.proofs.windows.close.Goals as goal

pub returns-in_default : goal.returns-in_default
unfolding taken sender
returns-in_default c z g =
    let p = c.args.pictures.now in
    refusal z c.args.program c.answer.ensures g (c.in_default.ensures (desk_of c.args.s.now p) p refl) refl

pub returns : goal.returns
returns c z g =
    let p = c.args.pictures.now in
    let o = c.in-Some.ensures in
    let a = c.set_window.ensures in
    let b = c.pack.ensures in
    let d = c.remove.ensures in
    closed-carried z c.args.s.now c.remove.new.self p c.close_gap.new.pictures c.args.program c.args.window c.area_used-used.result c.dots.result c.in-Some.w c.let_go-s.result c.let_go-s-2.result c.answer-2.ensures g
    o.slot (o.mine (desk_of c.args.s.now p) p refl) (c.area_used-used.ensures.value p)
    (d.slots ∙ b.slots ∙ ap (packed 0) a.slots) (d.limit ∙ b.limit ∙ a.limit) (d.order ∙ ap (without c.args.window) (b.order ∙ a.order)) c.let_go-s.ensures c.let_go-s-2.ensures
    c.dots.ensures.value c.close_gap.ensures
