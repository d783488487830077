use Rattle.std.proofs.Common.{◌≡◌, [], ◌∷◌, ◌++◌, vec_items, ap, ◌∙◌}
use Rattle.std.proofs.lemmas.Option.{MatchOption-at_some, MatchOption-at_none}
use Rattle.std.proofs.lemmas.Result.{err_from_is_err_and}
use Rattle.script.specs.Sentences.{texts}
use Rattle.script.specs.Tables.{number_of, row_of, each_bytes, rest_bytes}
use Rattle.script.proofs.Encoded.{event-said}
use Rattle.script.proofs.Going.{blame, going_start, going-by, going_more, going-put, going-stop, going-last}
use Rattle.script.proofs.Left.{event-few, event-parts}
use Rattle.script.proofs.events.put_event.Goals as goal

pub returns-in_err-words : goal.returns-in_err-words
returns-in_err-words c =
    let p = err_from_is_err_and c.from_residual.result c.from_residual.ensures.1 in
    let few = MatchOption-at_none _ _ c.in_err-words.ensures.ok_part c.split_at_checked.ensures.cases in
    rw (p.1, p.2) (blame _ (event-said _ _ ∙ event-few _ c.args.words.now (rw (← c.fields-fields.ensures) few)))

pub returns-in_err-put_fields : goal.returns-in_err-put_fields
returns-in_err-put_fields c =
    let old = vec_items c.args.out.now in
    let k = c.args.kind in
    let p = err_from_is_err_and c.from_residual-in_err-put_fields.result c.from_residual-in_err-put_fields.ensures.1 in
    let added : vec_items c.add.new.out ≡ old ++ (number_of k ∷ []) = c.in_ok-add.ensures ∙ ap (λ n. old ++ (n ∷ [])) c.number.ensures in
    let cut = MatchOption-at_some _ _ _ c.in_ok-words.ensures.ok_part c.split_at_checked.ensures.cases in
    let parts = event-said k (texts c.args.words.now) ∙ event-parts k c.fields-fields.result.now c.args.words.now _ _ c.fields-fields.ensures cut in
    rw (p.1, p.2) (going-stop _ _ _ (going_more (number_of k ∷ []) (vec_items c.add.new.out) _ (going-by parts (going_start _ old)) added) c.in_err-put_fields.ensures)

pub returns : goal.returns
returns c =
    let old = vec_items c.args.out.now in
    let k = c.args.kind in
    let fs = c.fields-fields.result.now in
    let rest = rest_bytes (row_of k) (texts c.in_ok-words.rest.now) in
    let added : vec_items c.add.new.out ≡ old ++ (number_of k ∷ []) = c.in_ok-add.ensures ∙ ap (λ n. old ++ (n ∷ [])) c.number.ensures in
    let cut = MatchOption-at_some _ _ _ c.in_ok-words.ensures.ok_part c.split_at_checked.ensures.cases in
    let parts = event-said k (texts c.args.words.now) ∙ event-parts k fs c.args.words.now _ _ c.fields-fields.ensures cut in
    let one = going_more (number_of k ∷ []) (vec_items c.add.new.out) _ (going-by parts (going_start _ old)) added in
    let two = going-put (each_bytes fs (texts c.in_ok-words.words.now)) (vec_items c.put_fields.new.out) rest tt one c.in_ok-put_fields.ensures in
    going-last {old = old} rest (vec_items c.put_rest.new.out) c.put_rest.result two c.put_rest.ensures
