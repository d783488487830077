use Rattle.std.proofs.Common.{◌+◌, ◌-◌, ◌*◌, ◌≤◌, length, get_or, arith, rules}
use Rattle.std.proofs.lemmas.List.{places}
use Rattle.pixels.proofs.Runs.{changed-part}
use Rattle.damage.proofs.Drawing.{row_room}
use Rattle.damage.proofs.apply.Boxed.put_row.Goals as goal

pub slice_bounds-copy_from_slice-end : goal.slice_bounds-copy_from_slice-end
slice_bounds-copy_from_slice-end c =
    let s = c.args.self.now in
    let m = row_room s.screen.wide s.screen.high s.head c.args.r s.lies c.requires.row in
    omega (arith, m.0, c.requires.room, c.row_at-to.ensures, c.from-count.ensures)

pub slice_bounds-copy_from_slice-end-2 : goal.slice_bounds-copy_from_slice-end-2
slice_bounds-copy_from_slice-end-2 c =
    let s = c.args.self.now in
    let m = row_room s.screen.wide s.screen.high s.head c.args.r s.lies c.requires.row in
    rw c.from-count.ensures (omega (arith, m.1, s.whole))

pub returns : goal.returns
returns c =
    let s = c.args.self.now in
    let h = s.head in
    let to = c.row_at-to.result in
    let n = c.from-count.result in
    let m = row_room s.screen.wide s.screen.high h c.args.r s.lies c.requires.row in
    let room : to + n ≤ length c.args.screen.now = omega (arith, m.0, c.requires.room, c.row_at-to.ensures, c.from-count.ensures) in
    let whole : c.args.r * n + n ≤ length s.dots.now = rw c.from-count.ensures (omega (arith, m.1, s.whole)) in
    rw (← c.row_at-to.ensures, ← c.from-count.ensures)
    (changed-part to n _ (λ k. get_or s.dots.now (c.args.r * n + (k - to)) 0) c.args.screen.now c.copy_from_slice.new.self room (search (rules, places)) (omega arith) (λ k h. search (rules, places)))
