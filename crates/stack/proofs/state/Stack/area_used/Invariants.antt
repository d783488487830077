use Rattle.std.proofs.Common.{◌≡◌, ℕ, ◌+◌, ◌*◌, ◌≤◌, List, map, drop}
use Rattle.model.specs.Desk.{area}
use Rattle.stack.specs.View.{view, slots_of, windows_of}
use Rattle.stack.proofs.state.Stack.area_used.Given as goal

abbrev pub invariant-loop-slot : goal.invariant-loop-slot
invariant-loop-slot l =
    ((p : List ℕ) → l.sum + area (map (view p) (drop l.slot-index (slots_of l.self))) ≡ area (windows_of l.self p)) × (l.sum ≤ 65535 * 65535 * l.slot-index)
