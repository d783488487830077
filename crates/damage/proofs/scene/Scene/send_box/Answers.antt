use Rattle.std.proofs.Common.{◌≡◌, ◌+◌, ◌-◌, ◌*◌, [], ◌∷◌, ◌++◌, length, ap, ◌∙◌, arith}
use Rattle.model.specs.Desk.{dot}
use Rattle.layout.specs.State.{desk_of}
use Rattle.damage.specs.Cells.{seen, dot_rows}
use Rattle.damage.proofs.Left.{sent-two, sent-then, sent_by}
use Rattle.damage.proofs.Dots.{rows-by}
use Rattle.damage.proofs.Seeing.{front-over, front-seen}
use Rattle.damage.proofs.Cutting.{box-words}
use Rattle.damage.proofs.scene.Scene.send_box.Goals as goal

pub invariant_of-pane : goal.invariant_of-pane
invariant_of-pane c =
    let s = c.args.self.now in
    record {
      inside = c.requires.columns;
      over = front-over s.after.now s.pictures.now (length s.pictures.now) c.args.cell c.front_window.result c.front_window.ensures c.requires.front c.requires.columns c.requires.rows s.lent;
    }

pub returns : goal.returns
returns c =
    let r = c.args.cell in
    let s = c.args.self.now.after.now in
    let p = c.args.self.now.pictures.now in
    let o = c.front_window.result in
    let at = c.args.at in
    let old = c.args.sent.now in
    let a = r.left + 65536 * r.top in
    let w = r.right - r.left in
    let h = r.below - r.top in
    let b = w + 65536 * h in
    let rows = dot_rows (seen p o) r.left w r.top h in
    let place : c.words-place.result.0 ≡ a = c.words-place.ensures.place in
    let size : c.words-place.result.1 ≡ b = rw (c.words-place.ensures.size, c.wide.ensures, c.high.ensures) in
    let head = sent-two at c.words-place.result.0 c.words-place.result.1 old (omega (arith, c.requires.room)) in
    let same : rows ≡ dot_rows (dot (desk_of s p)) r.left w r.top h =
    rows-by (seen p o) (dot (desk_of s p)) r.left w r.top h (λ i j k l m n. front-seen s p r o i j c.front_window.ensures c.requires.front k (omega arith) m (omega arith)) in
    sent_by at c.send_dots.result ((c.words-place.result.0 ∷ c.words-place.result.1 ∷ []) ++ rows) _ old c.send_dots.new.sent
    (ap (λ t. t ∷ c.words-place.result.1 ∷ rows) place ∙ ap (λ t. a ∷ t ∷ rows) size ∙ ap (λ t. a ∷ b ∷ t) same ∙ box-words s p r.left r.right r.top r.below c.requires.columns)
    (sent-then at (at + 2) c.send_dots.result (c.words-place.result.0 ∷ c.words-place.result.1 ∷ []) rows old _ c.send_dots.new.sent head c.send_dots.ensures)
