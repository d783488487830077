use Rattle.std.proofs.Common.{sym, refl, ap, ◌∙◌}
use Rattle.std.proofs.lemmas.Bool.{and_right}
use Rattle.layout.specs.State.{desk_of}
use Rattle.model.specs.Desk.{sender, box_fits}
use Rattle.model.specs.System.{taken}
use Rattle.desktop.proofs.Carrying.{refusal}
use Rattle.desktop.proofs.Painted.{copy-carried, copy-off}
use Rattle.desktop.proofs.paint.copy.Goals as goal

pub returns-in_default : goal.returns-in_default
unfolding taken sender
returns-in_default c z g =
    let p = c.args.pictures.now in
    refusal z c.args.program c.answer.ensures g (copy-off (desk_of c.args.s.now p) c.args.program c.args.window c.args.patch c.args.to_x c.args.to_y (c.in_default.ensures (desk_of c.args.s.now p) p refl)) refl

pub returns-then-not-has_box : goal.returns-then-not-has_box
unfolding taken sender
returns-then-not-has_box c z g =
    let p = c.args.pictures.now in
    let t = c.in-Some.ensures in
    refusal z c.args.program c.answer-then-not-has_box.ensures g
    (and_right _ _ (and_right _ _ (ap (λ w. box_fits w c.args.to_x c.args.to_y c.args.patch.wide c.args.patch.high) (t.0.value (desk_of c.args.s.now p) p refl) ∙ sym (simp c.moved_to.ensures at (c.if-not-has_box.ensures p))))) refl

pub returns : goal.returns
returns c z g =
    let p = c.args.pictures.now in
    let t = c.in-Some.ensures in
    let a = simp (c.from.ensures, c.from-2.ensures) at c.copy-taken.ensures.answer in
    let b = simp (c.from.ensures, c.from-2.ensures) at c.copy-taken.ensures.done in
    copy-carried z g t.0 c.picture.ensures c.answer-2.ensures {b = c.args.patch} (t.1 p) (sym (simp c.moved_to.ensures at (c.if-not-has_box.ensures p))) c.area.ensures a b
