use Rattle.std.proofs.Common.{◌≡◌, ◌+◌, ◌-◌, ◌≤◌, true, length, pos, ◌-ℤ◌, Some, None, Option, sym, ◌∙◌, subst, arith, w16, SFits, rules}
use lib.Signed.{le_z, mag}
use Rattle.std.proofs.lemmas.Int.{to_z-of_z}
use Rattle.stack.specs.declared.state.Window.{Window}
use Rattle.pixels.specs.declared.Span.{Span}
use Rattle.pixels.proofs.Laws.{run-fits-yes}
use Rattle.damage.specs.Encode.{Sent}
use Rattle.damage.specs.Cells.{seen, Over, OverIf, dot_row}
use Rattle.damage.proofs.Seeing.{line-fits, line-copied, line-blank, line-top}
use Rattle.damage.proofs.cells.Pane.send_line.Goals as goal

pub returns-in-Some : goal.returns-in-Some
returns-in-Some c =
    let p = c.args.self.now.pictures.now in
    let w = c.in-Some.w in
    let r = c.args.self.now.cell in
    let n = r.right - r.left in
    let at = c.args.at in
    let old = c.args.sent.now in
    let new = c.copy_out.new.out in
    let over : Over (length p) w r = subst (λ (o : Option Window). OverIf (length p) o r) c.in-Some.is c.args.self.now.over in
    let fx : SFits w16 c.in-Some.w.x = search rules in
    let fy : SFits w16 c.in-Some.w.y = search rules in
    let px : le_z w.x (pos r.left) ≡ true → c.past.result ≡ mag (pos r.left -ℤ w.x) = simp to_z-of_z at c.past.ensures in
    let py : le_z w.y (pos c.args.j) ≡ true → c.past-in-Some.result ≡ mag (pos c.args.j -ℤ w.y) = simp to_z-of_z at c.past-in-Some.ensures in
    let pic = c.picture.result in
    let span : Span = record { x = c.past.result; y = c.past-in-Some.result; wide = c.from-wide.result } in
    let sx = px over.left in
    let sy = py (line-top w r c.args.j (length p) over c.requires.top) in
    let yes = c.copy_out.ensures.answer ∙ line-fits p w r c.args.j at pic span old new (length p) over c.args.self.now.inside c.requires.top c.requires.below c.picture.ensures sx sy (c.from-wide.ensures ∙ c.wide.ensures) c.requires.room in
    let sent = line-copied p w r c.args.j at pic span old new (length p) over c.args.self.now.inside c.requires.top c.requires.below c.picture.ensures sx sy (c.from-wide.ensures ∙ c.wide.ensures) c.requires.room (c.copy_out.ensures.done yes) in
    subst (λ (o : Option Window). Sent at (at + c.from-wide.result) (dot_row (seen p o) r.left n c.args.j) old new) (sym c.in-Some.is)
    (subst (λ k. Sent at (at + k) (dot_row (seen p (Some w)) r.left n c.args.j) old new) (sym (c.from-wide.ensures ∙ c.wide.ensures)) sent)

pub returns-in-None : goal.returns-in-None
returns-in-None c =
    let p = c.args.self.now.pictures.now in
    let r = c.args.self.now.cell in
    let n = r.right - r.left in
    let at = c.args.at in
    let old = c.args.sent.now in
    let new = c.clear.new.dots in
    let e = c.from-wide.ensures ∙ c.wide.ensures in
    let room : at + c.from-wide.result ≤ length old = omega (arith, e, c.requires.room) in
    let yes = c.clear.ensures.answer ∙ run-fits-yes at c.from-wide.result (length old) room in
    let sent = line-blank p r.left c.from-wide.result c.args.j at old new room (c.clear.ensures.done yes) in
    subst (λ (o : Option Window). Sent at (at + c.from-wide.result) (dot_row (seen p o) r.left n c.args.j) old new) (sym c.in-None.is)
    (subst (λ k. Sent at (at + c.from-wide.result) (dot_row (seen p None) r.left k c.args.j) old new) e sent)
