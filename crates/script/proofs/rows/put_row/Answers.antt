use Rattle.std.proofs.Common.{◌≡◌, ◌++◌, vec_items, Ok, ap, ◌∙◌, rules}
use Rattle.std.proofs.lemmas.Result.{err_from_is_err_and, OkIff-at_ok}
use Rattle.protocol.specs.Fields.{digits}
use Rattle.script.proofs.Bytes.{two_digits}
use Rattle.script.proofs.Going.{blame, going_start, going-by, going_more, going-put, going-stop, going_end}
use Rattle.script.proofs.Left.{all_more, all_end, row-counted, row-long}
use Rattle.script.proofs.rows.put_row.Goals as goal

pub returns-in_err-count : goal.returns-in_err-count
returns-in_err-count c =
    let p = err_from_is_err_and c.from_residual.result c.from_residual.ensures.1 in
    rw (p.1, p.2) (blame _ (row-long _ _ c.try_from.result c.try_from.ensures (search rules)))

pub loop-word-init : goal.loop-word-init
loop-word-init c =
    let n = c.in_ok-count.count in
    let old = vec_items c.args.out.now in
    let got : c.try_from.result ≡ Ok n = search rules in
    let added : vec_items c.add.new.out ≡ old ++ digits 2 n = c.in_ok-add.ensures ∙ ap (λ l. old ++ l) (c.to_le_bytes.ensures ∙ two_digits n) in
    going_more (digits 2 n) _ _ (going-by (row-counted _ _ n (OkIff-at_ok c.try_from.result _ _ n c.try_from.ensures got)) (going_start _ old)) added

pub loop-word-preserved : goal.loop-word-preserved
loop-word-preserved c = going-put _ _ _ tt (going-by (all_more _ _ _ _ c.loop-word-test.true) c.loop-word.invariant) c.in_ok-put.ensures

pub returns-in_err-put : goal.returns-in_err-put
returns-in_err-put c =
    let p = err_from_is_err_and c.from_residual-in_err-put.result c.from_residual-in_err-put.ensures.1 in
    rw (p.1, p.2) (going-stop _ _ _ (going-by (all_more _ _ _ _ c.loop-word-test.true) c.loop-word.invariant) c.in_err-put.ensures)

pub returns : goal.returns
returns c = going_end tt (going-by (all_end _ _ _ c.loop-word-test.false) c.loop-word.invariant)
