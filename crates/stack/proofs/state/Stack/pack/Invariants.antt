use Rattle.std.proofs.Common.{◌≡◌, ◌*◌, ◌≤◌}
use Rattle.stack.proofs.Packing.{packing, ending}
use Rattle.stack.proofs.state.Stack.pack.Given as goal

abbrev pub invariant-loop-n : goal.invariant-loop-n
invariant-loop-n l =
    (l.self.windows ≡ packing l.n 0 l.initial.self.windows) × (l.at ≡ ending l.n 0 l.initial.self.windows) × (l.at ≤ 4294836225 * l.n) ×
    (l.self.limit ≡ l.initial.self.limit) × (l.self.order ≡ l.initial.self.order)
