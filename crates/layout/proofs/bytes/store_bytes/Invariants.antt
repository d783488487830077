use Rattle.std.proofs.Common.{◌≡◌, ℕ, ◌+◌, ◌*◌, ◌/◌, ◌<◌, ◌≤◌, ◌⊎◌, length, get_or}
use Rattle.layout.specs.Head.{byte_in}
use Rattle.layout.proofs.bytes.store_bytes.Given as goal

abbrev pub invariant-loop-n : goal.invariant-loop-n
invariant-loop-n l =
    ((k : ℕ) → k < 4 * l.n → k < length l.bytes → byte_in l.work l.at k ≡ get_or l.bytes k 0) ×
    ((k : ℕ) → (k < l.at) ⊎ (l.at + (length l.bytes + 3) / 4 ≤ k) → get_or l.work k 0 ≡ get_or l.initial.work k 0)
