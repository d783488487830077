use Rattle.std.proofs.Common.{sym, ap, ◌∙◌, length, arith}
use Rattle.std.proofs.lemmas.List.{length-append}
use Rattle.protocol.proofs.Adding.{added_then, added-as, wrote-row, no_room, not-had}
use Rattle.protocol.proofs.Rows.{row-bytes}
use Rattle.protocol.specs.Fields.{Bytes}
use Rattle.protocol.proofs.line.Line.write_row.Goals as goal

pub returns-then-not-lies_in : goal.returns-then-not-lies_in
returns-then-not-lies_in c = not-had _ _ _ _ (sym c.lies_in.ensures ∙ c.if-not-lies_in.true)

pub returns-then-not-room : goal.returns-then-not-room
returns-then-not-room c =
    let b : Bytes c.args.source.now = λ i. omega (arith, c.type_inv.source i) in
    let e = row-bytes c.args.width c.args.source.now c.args.row _ c.args.self b (sym c.lies_in.ensures ∙ c.if-not-lies_in.false) (c.as_slice-head.ensures ∙ c.two-line.ensures) in
    no_room _ c.args.at _ _ _ (sym c.room.ensures ∙ c.if-not-room.true) (sym (length-append _ _) ∙ ap length e)

pub returns : goal.returns
returns c =
    let b : Bytes c.args.source.now = λ i. omega (arith, c.type_inv.source i) in
    let lie = sym c.lies_in.ensures ∙ c.if-not-lies_in.false in
    let e = row-bytes c.args.width c.args.source.now c.args.row _ c.args.self b lie (c.as_slice-head.ensures ∙ c.two-line.ensures) in
    wrote-row _ c.args.at _ _ _ _ _ lie (sym c.room.ensures ∙ c.if-not-room.false) (sym (length-append _ _) ∙ ap length e)
    (added-as _ _ _ _ _ _ e (added_then _ _ _ _ _ _ _ _ c.put.ensures c.put-2.ensures))
