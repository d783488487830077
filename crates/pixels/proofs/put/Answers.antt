use Rattle.std.proofs.Common.{◌≡◌, ◌+◌, ◌≤◌, arith}
use Rattle.pixels.specs.Colours.{colours_in}
use Rattle.pixels.specs.Pictures.{place}
use Rattle.pixels.proofs.Laws.{colours-length}
use Rattle.pixels.proofs.Spans.{put-painted}
use Rattle.pixels.proofs.put.Goals as goal

pub returns-clause-done : goal.returns-clause-done
returns-clause-done c _ =
    let p = c.args.picture in
    let s = c.args.span in
    let part = c.in-Some.ensures in
    let first : s.y + 0 ≡ s.y = omega arith in
    let start : c.row.result ≡ place p.at p.wide s.x s.y = rw (part.picture, part.area, c.area.ensures, first) at c.row.ensures.value in
    let columns : s.x + s.wide ≤ p.wide = rw (part.picture, part.area, c.area.ensures) at c.in-Some.part.columns in
    let rows : s.y + 1 ≤ p.high = rw (part.picture, part.area, c.area.ensures) at c.in-Some.part.rows in
    let l = colours-length c.args.call.now c.args.from s.wide in
    put-painted p s.x s.y (colours_in c.args.call.now c.args.from s.wide) c.args.pictures.now c.put_run.new.dots
    (omega arith) rows (rw l (rw start at c.put_run.ensures))
