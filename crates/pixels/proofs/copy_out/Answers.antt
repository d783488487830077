use Rattle.std.proofs.Common.{◌≡◌, ◌+◌, ◌≤◌, arith}
use Rattle.pixels.specs.Pictures.{place}
use Rattle.pixels.proofs.Spans.{span-copied}
use Rattle.pixels.proofs.copy_out.Goals as goal

pub returns-clause-done : goal.returns-clause-done
returns-clause-done c _ =
    let p = c.args.picture in
    let s = c.args.span in
    let part = c.in-Some.ensures in
    let first : s.y + 0 ≡ s.y = omega arith in
    let start : c.row.result ≡ place p.at p.wide s.x s.y = rw (part.picture, part.area, c.area.ensures, first) at c.row.ensures.value in
    let columns : s.x + s.wide ≤ p.wide = rw (part.picture, part.area, c.area.ensures) at c.in-Some.part.columns in
    let rows : s.y + 1 ≤ p.high = rw (part.picture, part.area, c.area.ensures) at c.in-Some.part.rows in
    span-copied p s.x s.y s.wide c.args.to c.args.pictures.now c.args.out.now c.copy_across.new.out columns rows (rw start at c.copy_across.ensures)
