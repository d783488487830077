use Rattle.std.proofs.Common.{refl, ◌∙◌}
use Rattle.model.specs.Desk.{sender}
use Rattle.model.specs.System.{taken}
use Rattle.desktop.proofs.Carrying.{refusal}
use Rattle.desktop.proofs.Arranging.{mine-found, raised}
use Rattle.desktop.proofs.windows.raise.Goals as goal

pub returns-then-is_none : goal.returns-then-is_none
unfolding taken sender
returns-then-is_none c z p g =
    refusal z c.args.program c.answer.ensures g (mine-found c.args.s.now p c.args.program c.args.window c.owned.result c.owned.ensures ∙ c.if-is_none.ensures) refl

pub returns : goal.returns
returns c z p g =
    let m = c.raise.ensures in
    let o = mine-found c.args.s.now p c.args.program c.args.window c.owned.result c.owned.ensures ∙ c.if-is_none.ensures in
    raised z c.args.s.now c.raise.new.self p c.args.program c.args.window c.raise.result c.answer-2.ensures g o m.slots m.limit m.answer m.order
