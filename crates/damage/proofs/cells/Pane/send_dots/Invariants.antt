use Rattle.std.proofs.Common.{◌-◌}
use Rattle.damage.specs.Cells.{seen, dot_rows}
use Rattle.damage.proofs.Left.{Left}
use Rattle.damage.proofs.cells.Pane.send_dots.Given as goal

abbrev pub invariant-loop-j : goal.invariant-loop-j
invariant-loop-j l =
    let r = l.self.cell in
    Left l.at l.end (dot_rows (seen l.self.pictures.now l.self.front) r.left (r.right - r.left) r.top (r.below - r.top)) (dot_rows (seen l.self.pictures.now l.self.front) r.left (r.right - r.left) l.j (r.below - l.j))
    l.initial.sent l.sent
