use Rattle.std.proofs.Common.{◌+◌, ◌*◌, length, arith}
use Rattle.std.proofs.lemmas.List.Edits.{fill_by_more}
use Rattle.std.proofs.lemmas.List.FromFn.{fill_by_all}
use Rattle.pixels.specs.Colours.{colour_at, colours_in}
use Rattle.pixels.proofs.read_colours.Goals as goal

pub loop-k-preserved : goal.loop-k-preserved
loop-k-preserved c =
    rw c.colour_at.ensures (fill_by_more (λ n. colour_at c.args.call.now (c.args.from + 4 * n)) c.loop-k.row c.loop-k.k 0 (omega arith) c.loop-k.invariant)

pub returns : goal.returns
unfolding colours_in
returns c =
    fill_by_all (λ n. colour_at c.args.call.now (c.args.from + 4 * n)) c.loop-k.row (length c.args.row.now) 0 (omega arith) (λ k h. c.loop-k.invariant k (omega arith))
