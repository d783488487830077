use Rattle.std.proofs.Common.{◌≡◌, ℕ, ◌<◌, [], get_or, None}
use Rattle.stack.specs.View.{slots_of, order_of}
use Rattle.layout.specs.Head.{entry_at, table_at}
use Rattle.layout.proofs.table.load_table.Given as goal

abbrev pub invariant-loop-n : goal.invariant-loop-n
invariant-loop-n l =
    ((k : ℕ) → k < l.n → get_or (slots_of l.s) k None ≡ entry_at l.head.work.now table_at k) × (order_of l.s ≡ []) × (l.s.limit ≡ l.count)
