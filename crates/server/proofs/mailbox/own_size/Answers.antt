use Rattle.std.proofs.Common.{sym, arith}
use Rattle.protocol.specs.Fields.{Bytes}
use Rattle.std.proofs.lemmas.Bool.{eq-eqb, ne_eqb}
use Rattle.std.proofs.lemmas.Result.{err_from_is_err_and}
use Rattle.server.proofs.Taking.{counted_start, counted-mine, counted-other, counted-fault, counted-end}
use Rattle.server.proofs.mailbox.own_size.Goals as goal

pub measure-init : goal.measure-init
measure-init c = counted_start c.args.program c.args.words.now

pub measure-preserved-then-told-program : goal.measure-preserved-then-told-program
measure-preserved-then-told-program c =
    let b : Bytes c.args.words.now = λ i. omega (arith, c.type_inv.words i) in
    counted-mine _ _ _ _ _ _ c.measure.invariant b (omega arith) (sym c.in_ok-told.ensures.value) (eq-eqb c.in_ok-told.told c.args.program (omega arith))

pub measure-preserved : goal.measure-preserved
measure-preserved c =
    let b : Bytes c.args.words.now = λ i. omega (arith, c.type_inv.words i) in
    counted-other _ _ _ _ _ _ c.measure.invariant b (omega arith) (sym c.in_ok-told.ensures.value) (ne_eqb c.in_ok-told.told c.args.program (omega arith))

pub returns : goal.returns
returns c = counted-end _ _ _ _ c.measure.invariant (omega arith)

pub returns-in_err-told : goal.returns-in_err-told
returns-in_err-told c =
    let e = c.in_err-told.ensures in
    let p = err_from_is_err_and c.from_residual.result c.from_residual.ensures.1 in
    rw (p.1, p.2) (counted-fault _ _ _ _ _ c.measure.invariant (omega arith) (sym e.value) e.ends.0 e.ends.1)
