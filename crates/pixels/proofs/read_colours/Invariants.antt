use Rattle.std.proofs.Common.{◌≡◌, ℕ, ◌+◌, ◌*◌, ◌<◌, get_or}
use Rattle.pixels.specs.Colours.{colour_at}
use Rattle.pixels.proofs.read_colours.Given as goal

abbrev pub invariant-loop-k : goal.invariant-loop-k
invariant-loop-k l = (n : ℕ) → n < l.k → get_or l.row n 0 ≡ colour_at l.call (l.from + 4 * n)
