use Rattle.std.proofs.Common.{None, Some, refl}
use Rattle.std.proofs.lemmas.Result.{err_from_is_err_and}
use Rattle.std.proofs.lemmas.Slice.Zip.{Zip-more, either_empty_from_Zip}
use Rattle.script.proofs.Going.{going-by, going-put, going-stop, going_end}
use Rattle.script.proofs.Left.{each_more, each-end}
use Rattle.script.proofs.rows.put_fields.Goals as goal

pub returns-in_err-put : goal.returns-in_err-put
returns-in_err-put c =
    let p = err_from_is_err_and c.from_residual.result c.from_residual.ensures.1 in
    let m = Zip-more c.loop-field.field-iterator c.next.new.self (Some (c.in-Some.field, c.in-Some.word)) _ refl c.in-Some.ensures.steps in
    rw (p.1, p.2) (going-stop _ _ _ (going-by (each_more _ _ _ _ _ _ m.0 m.1) c.loop-field.invariant) c.in_err-put.ensures)

pub loop-field-preserved : goal.loop-field-preserved
loop-field-preserved c =
    let m = Zip-more c.loop-field.field-iterator c.next.new.self (Some (c.in-Some.field, c.in-Some.word)) _ refl c.in-Some.ensures.steps in
    going-put _ _ _ tt (going-by (each_more _ _ _ _ _ _ m.0 m.1) c.loop-field.invariant) c.in_ok-put.ensures

pub returns : goal.returns
returns c = going_end tt (going-by (each-end _ _ (either_empty_from_Zip c.loop-field.field-iterator c.next.new.self None refl c.in-None.ensures.steps)) c.loop-field.invariant)
