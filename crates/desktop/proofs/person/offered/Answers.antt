use Rattle.std.proofs.Common.{drop, sym, refl, ◌∙◌, arith, rules, leb-true}
use Rattle.std.proofs.lemmas.List.{length-drop}
use Rattle.std.proofs.lemmas.Slice.{overwrites}
use Rattle.protocol.proofs.Rows.{numbers-one}
use Rattle.desktop.proofs.person.offered.Goals as goal

pub returns : goal.returns
returns c l m =
    let bs = c.args.call.now in
    let q = c.args.part in
    let h = leb-true _ _ l in
    let d = length-drop q.from bs in
    (refl, search (rules, overwrites) ∙ sym (numbers-one q.count (drop q.from bs) (omega (arith, h, d))))
