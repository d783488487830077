use Rattle.std.proofs.Common.{◌≡◌, ℕ, ◌+◌, ◌*◌, ◌<◌, ◌≤◌, true, ◌⊎◌, get_or, None}
use Rattle.stack.specs.View.{slots_of}
use Rattle.layout.specs.Head.{table_at, entry_at, flagged, word}
use Rattle.layout.specs.Stored.{bare}
use Rattle.layout.proofs.table.store_table.Given as goal

abbrev pub invariant-loop-n : goal.invariant-loop-n
invariant-loop-n l =
    ((k : ℕ) → k < l.n → entry_at l.work table_at k ≡ bare (get_or (slots_of l.s) k None)) ×
    ((k : ℕ) → k < l.n → flagged (word l.work (table_at + 3 * k)) ≡ true) ×
    ((k : ℕ) → (k < table_at) ⊎ (table_at + 3 * l.s.limit ≤ k) → get_or l.work k 0 ≡ get_or l.initial.work k 0)
