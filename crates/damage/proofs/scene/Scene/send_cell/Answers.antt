use Rattle.std.proofs.Common.{List, [], length, sym, ap, ◌∙◌, arith}
use Rattle.std.proofs.lemmas.Bool.{and_right}
use Rattle.model.specs.System as system
use Rattle.damage.specs.Cells.{words_of}
use Rattle.damage.specs.Scenes.{in_scene}
use Rattle.damage.proofs.Left.{sent-none, sent_by}
use Rattle.damage.proofs.Cutting.{cell-one, cell-words-none, rect-empty, rect-full, box-length}
use Rattle.damage.proofs.scene.Scene.send_cell.Goals as goal

pub returns-then-is_empty : goal.returns-then-is_empty
returns-then-is_empty c =
    let r = c.args.cell in
    let p = c.args.self.now.pictures.now in
    let f = in_scene c.args.self.now in
    sent_by c.args.at c.args.at [] _ c.args.sent.now c.args.sent.now
    (cell-words-none c.args.self.now.after.now p f r.left r.right r.top r.below (rect-empty r (f r.left r.top) c.if-is_empty.ensures)) (sent-none c.args.at c.args.sent.now)

pub returns-then-not-at : goal.returns-then-not-at
returns-then-not-at c =
    let r = c.args.cell in
    let p = c.args.self.now.pictures.now in
    let f = in_scene c.args.self.now in
    sent_by c.args.at c.args.at [] _ c.args.sent.now c.args.sent.now
    (cell-words-none c.args.self.now.after.now p f r.left r.right r.top r.below (and_right _ (f r.left r.top) (sym (c.if-not-at.ensures p p)))) (sent-none c.args.at c.args.sent.now)

pub send_box-requires : goal.send_box-requires
send_box-requires c =
    let r = c.args.cell in
    let s = c.args.self.now.after.now in
    let p = c.args.self.now.pictures.now in
    let f = in_scene c.args.self.now in
    let l = rect-full r c.if-is_empty.ensures in
    let e = cell-one f r.left r.right r.top r.below l.0 l.1 (sym (c.if-not-at.ensures p p)) in
    let n = ap (λ (t : List system.Rect). length (words_of s p t)) e ∙ box-length s p r.left r.right r.top r.below l.0 in
    record { columns = l.0; rows = l.1; right = c.requires.right; below = c.requires.below; front = c.requires.front; room = omega (arith, n, c.requires.room) }

pub returns : goal.returns
returns c =
    let r = c.args.cell in
    let s = c.args.self.now.after.now in
    let p = c.args.self.now.pictures.now in
    let f = in_scene c.args.self.now in
    let l = rect-full r c.if-is_empty.ensures in
    let e = cell-one f r.left r.right r.top r.below l.0 l.1 (sym (c.if-not-at.ensures p p)) in
    sent_by c.args.at c.send_box.result _ _ c.args.sent.now c.send_box.new.sent (ap (words_of s p) (sym e)) c.send_box.ensures
