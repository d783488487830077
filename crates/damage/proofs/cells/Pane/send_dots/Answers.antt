use Rattle.std.proofs.Common.{◌+◌, ◌-◌, arith}
use Rattle.damage.specs.Cells.{seen, dot_row, dot_rows}
use Rattle.damage.proofs.Left.{left_by, left-more, left_end, left-room}
use Rattle.damage.proofs.Dots.{rows-cons, rows-nil, rows-length, row-length}
use Rattle.damage.proofs.cells.Pane.send_dots.Goals as goal

pub send_line-end-requires : goal.send_line-end-requires
send_line-end-requires c =
    let r = c.args.self.now.cell in
    let f = seen c.args.self.now.pictures.now c.args.self.now.front in
    let w = r.right - r.left in
    let j = c.loop-j.j in
    let all = dot_rows f r.left w r.top (r.below - r.top) in
    let n = rows-length f r.left w r.top (r.below - r.top) in
    let i = left_by c.args.at c.loop-j.end all (dot_rows f r.left w j (r.below - j)) _ c.args.sent.now c.loop-j.sent (rows-cons f r.left w j r.below c.loop-j-test.true) c.loop-j.invariant in
    let m = left-room c.args.at c.loop-j.end all (dot_row f r.left w j) (dot_rows f r.left w (j + 1) (r.below - (j + 1))) c.args.sent.now c.loop-j.sent i (omega (arith, n, c.requires)) in
    record { top = c.loop-j.auto.j; below = c.loop-j-test.true; room = omega (arith, m, row-length f r.left w j) }

pub loop-j-preserved : goal.loop-j-preserved
loop-j-preserved c =
    let r = c.args.self.now.cell in
    let f = seen c.args.self.now.pictures.now c.args.self.now.front in
    let w = r.right - r.left in
    let j = c.loop-j.j in
    let all = dot_rows f r.left w r.top (r.below - r.top) in
    let i = left_by c.args.at c.loop-j.end all (dot_rows f r.left w j (r.below - j)) _ c.args.sent.now c.loop-j.sent (rows-cons f r.left w j r.below c.loop-j-test.true) c.loop-j.invariant in
    left-more c.args.at c.loop-j.end c.send_line-end.result all (dot_row f r.left w j) (dot_rows f r.left w (j + 1) (r.below - (j + 1))) c.args.sent.now c.loop-j.sent c.send_line-end.new.sent i c.send_line-end.ensures
    c.send_line-end.auto.sent

pub returns : goal.returns
returns c =
    let r = c.args.self.now.cell in
    let f = seen c.args.self.now.pictures.now c.args.self.now.front in
    let w = r.right - r.left in
    let j = c.loop-j.j in
    let all = dot_rows f r.left w r.top (r.below - r.top) in
    left_end c.args.at c.loop-j.end all c.args.sent.now c.loop-j.sent
    (left_by c.args.at c.loop-j.end all (dot_rows f r.left w j (r.below - j)) _ c.args.sent.now c.loop-j.sent (rows-nil f r.left w j r.below c.loop-j-test.false) c.loop-j.invariant)
