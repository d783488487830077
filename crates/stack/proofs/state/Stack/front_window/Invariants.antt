use Rattle.std.proofs.Common.{◌≡◌, ℕ, List, length, drop, reverse}
use Rattle.model.specs.Desk.{Desk, front}
use Rattle.stack.specs.View.{windows_of, order_of}
use Rattle.stack.proofs.state.Stack.front_window.Given as goal

-- the window in front among those that are left is the one in front of all
abbrev pub invariant-loop-n : goal.invariant-loop-n
invariant-loop-n l =
    (d : Desk) (p : List ℕ) → d.windows ≡ windows_of l.self p → front d (reverse (drop (length l.yielded) (reverse (order_of l.self)))) l.x l.y ≡ front d (order_of l.self) l.x l.y
