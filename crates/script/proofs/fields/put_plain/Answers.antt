use Rattle.std.proofs.Common.{take, Some, sym, ap, ◌∙◌, arith}
use Rattle.std.specs.Option.{option_map}
use Rattle.protocol.specs.Fields.{digits}
use Rattle.script.proofs.Bytes.{take-four}
use Rattle.script.proofs.Going.{puts-from-add}
use Rattle.script.proofs.fields.put_plain.Goals as goal

pub returns : goal.returns
returns c =
    let w = c.args.width in
    let e = ap (take w) c.to_le_bytes.ensures ∙ take-four w c.in_ok-n.n (omega arith) in
    puts-from-add _ _ _ (take w c.to_le_bytes.result) c.add.result
    (ap (option_map (digits w)) (sym c.plain.ensures.value ∙ c.in_ok-n.ensures.ok_part) ∙ ap (λ l. Some l) (sym e)) c.add.ensures
