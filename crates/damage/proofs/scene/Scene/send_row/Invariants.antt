use Rattle.std.proofs.Common.{ℕ, drop}
use Rattle.model.specs.System.{front_at}
use Rattle.layout.specs.State.{desk_of}
use Rattle.damage.specs.Cells.{row_of, Even, Low}
use Rattle.damage.specs.Scenes.{in_scene, written}
use Rattle.damage.proofs.Left.{Left}
use Rattle.damage.proofs.scene.Scene.send_row.Given as goal

abbrev pub invariant-loop-x : goal.invariant-loop-x
invariant-loop-x l =
    let s = l.self in
    let xs = s.xs.now in
    record {
      sent : Left l.at l.end (written s (row_of (in_scene s) l.top l.below 0 xs)) (written s (row_of (in_scene s) l.top l.below l.left (drop l.x-index xs))) l.initial.sent l.sent;
      across : (j : ℕ) → Even (λ u. front_at (desk_of s.after.now s.pictures.now) u j) l.left (drop l.x-index xs);
      low : Low (drop l.x-index xs);
    }
