use Rattle.std.proofs.Common.{◌+◌, get_or, drop}
use Rattle.model.specs.System.{front_at}
use Rattle.layout.specs.State.{desk_of}
use Rattle.damage.specs.Cells.{row_of, cells_of}
use Rattle.damage.specs.Scenes.{in_scene, written}
use Rattle.damage.proofs.Left.{left_by, left-more, left_end, left-room, left-start}
use Rattle.damage.proofs.Cutting.{cells-left, cells-end, even-more, low-more}
use Rattle.damage.proofs.scene.Scene.send_cells.Goals as goal

pub loop-y-init : goal.loop-y-init
loop-y-init c =
    let s = c.args.self.now in
    record { sent = left-start c.args.at _ c.args.sent.now; down = s.down; low = s.y_low }

pub send_row-end-requires : goal.send_row-end-requires
send_row-end-requires c =
    let s = c.args.self.now in
    let f = in_scene s in
    let xs = s.xs.now in
    let ys = s.ys.now in
    let k = c.loop-y.y-index in
    let top = c.loop-y.top in
    let below = get_or ys k 0 in
    let h = c.loop-y-test.true in
    let i = c.loop-y.invariant in
    let all = written s (cells_of f xs 0 ys) in
    let m = cells-left s.after.now s.pictures.now f xs top k ys c.args.at c.loop-y.end all c.args.sent.now c.loop-y.sent h i.sent in
    record {
      low = (low-more k ys h i.low).0;
      down = λ u j g l. (even-more (λ v. front_at (desk_of s.after.now s.pictures.now) u v) top k ys h (i.down u)).0 j g l;
      room = left-room c.args.at c.loop-y.end all (written s (row_of f top below 0 xs)) (written s (cells_of f xs below (drop (k + 1) ys))) c.args.sent.now c.loop-y.sent m c.requires;
    }

pub loop-y-preserved : goal.loop-y-preserved
loop-y-preserved c =
    let s = c.args.self.now in
    let f = in_scene s in
    let xs = s.xs.now in
    let ys = s.ys.now in
    let k = c.loop-y.y-index in
    let top = c.loop-y.top in
    let below = get_or ys k 0 in
    let h = c.loop-y-test.true in
    let i = c.loop-y.invariant in
    let all = written s (cells_of f xs 0 ys) in
    let m = cells-left s.after.now s.pictures.now f xs top k ys c.args.at c.loop-y.end all c.args.sent.now c.loop-y.sent h i.sent in
    record {
      sent = left-more c.args.at c.loop-y.end c.send_row-end.result all (written s (row_of f top below 0 xs)) (written s (cells_of f xs below (drop (k + 1) ys))) c.args.sent.now c.loop-y.sent c.send_row-end.new.sent m
          c.send_row-end.ensures c.send_row-end.auto.sent;
      down = λ u. (even-more (λ v. front_at (desk_of s.after.now s.pictures.now) u v) top k ys h (i.down u)).1;
      low = (low-more k ys h i.low).1;
    }

pub returns : goal.returns
returns c =
    let s = c.args.self.now in
    let xs = s.xs.now in
    let ys = s.ys.now in
    let k = c.loop-y.y-index in
    let top = c.loop-y.top in
    let all = written s (cells_of (in_scene s) xs 0 ys) in
    left_end c.args.at c.loop-y.end all c.args.sent.now c.loop-y.sent
    (left_by c.args.at c.loop-y.end all (written s (cells_of (in_scene s) xs top (drop k ys))) _ c.args.sent.now c.loop-y.sent
    (cells-end s.after.now s.pictures.now (in_scene s) xs top k ys c.loop-y-test.false) c.loop-y.invariant.sent)
