use Rattle.std.proofs.Common.{◌≡◌, ◌+◌, ◌<◌, sym, ap, ◌∙◌, subst, Ok, ⊎_elim, vec_items, arith, rules}
use Rattle.std.specs.Iterator.Adapters.{zip_first, zip_second}
use Rattle.std.specs.Result.{MatchResult}
use Rattle.std.specs.Str.Iter.{lines_rest}
use Rattle.std.proofs.lemmas.Result.{err_from_is_err_and}
use Rattle.script.specs.Texts.{PutsLine, WrongAt}
use Rattle.script.proofs.Reading.{sofar-none, sofar-more, sofar-wrong, line-wrong, sofar-end}
use Rattle.script.proofs.text.convert.Goals as goal

pub loop-line-init : goal.loop-line-init
loop-line-init c =
    let whole : lines_rest (zip_second c.into_iter-line-iterator.result) ≡ c.args.text.now = search rules in
    let first : (zip_first c.into_iter-line-iterator.result).start ≡ 1 = search rules in
    (0, first, sofar-none _ _ _ whole c.new-out.ensures.items)

pub loop-line-preserved : goal.loop-line-preserved
loop-line-preserved c =
    let sofar = c.loop-line.invariant in
    let next = c.in-Some.ensures.steps in
    let got : c.put_line.result ≡ Ok tt = search rules in
    let put = subst (PutsLine c.in-Some.text.now (vec_items c.loop-line.out) (vec_items c.put_line.new.out)) got c.put_line.ensures in
    (sofar.0 + 1, next.0.1 ∙ ap (λ n. n + 1) (next.0.0 ∙ sofar.1), sofar-more _ _ _ c.in-Some.text.now _ _ sofar.2 next.1.0.0 next.1.0.2 _ put)

pub returns-in_err-map_err : goal.returns-in_err-map_err
returns-in_err-map_err c =
    let p = err_from_is_err_and c.from_residual.result c.from_residual.ensures.1 in
    let sofar = c.loop-line.invariant in
    let next = c.in-Some.ensures.steps in
    let turned : MatchResult c.put_line.result (λ _. ⊥) (λ e. c.in_err-map_err.field-0.0 ≡ record { line = c.in-Some.line; problem = e }) = search rules in
    rw (p.1, p.2) (line-wrong c.args.text.now c.in-Some.text.now _ _ c.in-Some.line c.put_line.result _ c.put_line.ensures
    (λ h. subst (WrongAt c.args.text.now) (sym (next.0.0 ∙ sofar.1)) (sofar-wrong _ _ _ c.in-Some.text.now _ _ sofar.2 next.1.0.0 next.1.0.2 h)) turned)

pub returns : goal.returns
returns c =
    let sofar = c.loop-line.invariant in
    let few = sofar.2.few in
    let low : sofar.0 + 1 < 18446744073709551615 = search rules in
    ⊎_elim (λ u. absurd (omega (arith, u.1.0, sofar.1))) (λ u. sofar-end _ _ _ _ sofar.2 u.1.0.0) c.in-None.ensures.steps
