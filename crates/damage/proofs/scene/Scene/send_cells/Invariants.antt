use Rattle.std.proofs.Common.{ℕ, drop}
use Rattle.model.specs.System.{front_at}
use Rattle.layout.specs.State.{desk_of}
use Rattle.damage.specs.Cells.{cells_of, Even, Low}
use Rattle.damage.specs.Scenes.{in_scene, written}
use Rattle.damage.proofs.Left.{Left}
use Rattle.damage.proofs.scene.Scene.send_cells.Given as goal

abbrev pub invariant-loop-y : goal.invariant-loop-y
invariant-loop-y l =
    let s = l.self in
    let ys = s.ys.now in
    record {
      sent : Left l.at l.end (written s (cells_of (in_scene s) s.xs.now 0 ys)) (written s (cells_of (in_scene s) s.xs.now l.top (drop l.y-index ys))) l.initial.sent l.sent;
      down : (i : ℕ) → Even (λ v. front_at (desk_of s.after.now s.pictures.now) i v) l.top (drop l.y-index ys);
      low : Low (drop l.y-index ys);
    }
