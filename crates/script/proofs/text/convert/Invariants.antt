use Rattle.std.proofs.Common.{ℕ, ◌≡◌, ◌+◌, vec_items}
use Rattle.std.specs.Iterator.Adapters.{zip_first, zip_second}
use Rattle.std.specs.Str.Iter.{lines_rest}
use Rattle.script.proofs.Reading.{Sofar}
use Rattle.script.proofs.text.convert.Given as goal

abbrev pub invariant-loop-line : goal.invariant-loop-line
invariant-loop-line l = (n : ℕ) × ((zip_first l.line-iterator).start ≡ n + 1) × Sofar l.text (lines_rest (zip_second l.line-iterator)) n (vec_items l.out)
