use Rattle.std.proofs.Common.{◌+◌, [], get_or, drop, ◌∙◌}
use Rattle.model.specs.Grid.{cell}
use Rattle.model.specs.System.{front_at}
use Rattle.layout.specs.State.{desk_of}
use Rattle.damage.specs.Cells.{row_of}
use Rattle.damage.specs.Scenes.{in_scene, written}
use Rattle.damage.proofs.Left.{left_by, left-more, left_end, left-room, left-start, sent-none, sent_by}
use Rattle.damage.proofs.Cutting.{row-left, row-end, row-words-flat, even-more, low-more}
use Rattle.damage.proofs.scene.Scene.send_row.Goals as goal

pub returns-then-top-below : goal.returns-then-top-below
returns-then-top-below c =
    let s = c.args.self.now in
    sent_by c.args.at c.args.at [] _ c.args.sent.now c.args.sent.now (row-words-flat s.after.now s.pictures.now (in_scene s) c.args.top c.args.below 0 s.xs.now c.if-top-below.true) (sent-none c.args.at c.args.sent.now)

pub send_cell-end-requires : goal.send_cell-end-requires
send_cell-end-requires c =
    let s = c.args.self.now in
    let f = in_scene s in
    let xs = s.xs.now in
    let k = c.loop-x.x-index in
    let a = c.loop-x.left in
    let b = get_or xs k 0 in
    let top = c.args.top in
    let below = c.args.below in
    let h = c.loop-x-test.true in
    let i = c.loop-x.invariant in
    let all = written s (row_of f top below 0 xs) in
    let m = row-left s.after.now s.pictures.now f top below a k xs c.args.at c.loop-x.end all c.args.sent.now c.loop-x.sent h i.sent in
    record {
      right = (low-more k xs h i.low).0;
      below = c.requires.low;
      front = λ u j g l q t. (even-more (λ v. front_at (desk_of s.after.now s.pictures.now) v j) a k xs h (i.across j)).0 u g l ∙ c.requires.down a j q t;
      room = left-room c.args.at c.loop-x.end all (written s (cell f a b top below)) (written s (row_of f top below b (drop (k + 1) xs))) c.args.sent.now c.loop-x.sent m c.requires.room;
    }

pub loop-x-init : goal.loop-x-init
loop-x-init c =
    let s = c.args.self.now in
    record { sent = left-start c.args.at _ c.args.sent.now; across = s.across; low = s.x_low }

pub loop-x-preserved : goal.loop-x-preserved
loop-x-preserved c =
    let s = c.args.self.now in
    let f = in_scene s in
    let xs = s.xs.now in
    let k = c.loop-x.x-index in
    let a = c.loop-x.left in
    let b = get_or xs k 0 in
    let top = c.args.top in
    let below = c.args.below in
    let h = c.loop-x-test.true in
    let i = c.loop-x.invariant in
    let all = written s (row_of f top below 0 xs) in
    let m = row-left s.after.now s.pictures.now f top below a k xs c.args.at c.loop-x.end all c.args.sent.now c.loop-x.sent h i.sent in
    record {
      sent = left-more c.args.at c.loop-x.end c.send_cell-end.result all (written s (cell f a b top below)) (written s (row_of f top below b (drop (k + 1) xs))) c.args.sent.now c.loop-x.sent c.send_cell-end.new.sent m
          c.send_cell-end.ensures c.send_cell-end.auto.sent;
      across = λ j. (even-more (λ v. front_at (desk_of s.after.now s.pictures.now) v j) a k xs h (i.across j)).1;
      low = (low-more k xs h i.low).1;
    }

pub returns : goal.returns
returns c =
    let s = c.args.self.now in
    let xs = s.xs.now in
    let k = c.loop-x.x-index in
    let a = c.loop-x.left in
    let all = written s (row_of (in_scene s) c.args.top c.args.below 0 xs) in
    left_end c.args.at c.loop-x.end all c.args.sent.now c.loop-x.sent
    (left_by c.args.at c.loop-x.end all (written s (row_of (in_scene s) c.args.top c.args.below a (drop k xs))) _ c.args.sent.now c.loop-x.sent
    (row-end s.after.now s.pictures.now (in_scene s) c.args.top c.args.below a k xs c.loop-x-test.false) c.loop-x.invariant.sent)
