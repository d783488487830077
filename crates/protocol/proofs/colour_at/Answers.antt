use Rattle.std.proofs.Common.{◌*◌, drop, sym, ap, ◌∙◌, arith, rules}
use Rattle.std.proofs.lemmas.Bool.{and_from, lt-ltb}
use Rattle.std.proofs.lemmas.List.{drop-drop}
use Rattle.protocol.specs.Fields.{number}
use Rattle.protocol.proofs.Rows.{getD-numbers}
use Rattle.protocol.proofs.colour_at.Goals as goal

pub returns : goal.returns
returns c =
    let bs = c.args.source.now in
    let row = c.args.row in
    let i = c.args.i in (
      and_from _ _ (search rules) (lt-ltb i row.count (omega arith)),
      c.four_at.ensures ∙ ap (number 4) (sym (drop-drop (4 * i) row.from bs)) ∙ sym (getD-numbers 4 row.count (drop row.from bs) i (omega arith)),
    )
