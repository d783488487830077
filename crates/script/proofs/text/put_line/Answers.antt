use Rattle.std.proofs.Common.{vec_items, subst}
use Rattle.std.specs.Option.{option_map}
use Rattle.std.proofs.lemmas.Result.{err_from_is_err_and}
use Rattle.script.specs.Putting.{Puts}
use Rattle.script.specs.Sentences.{texts}
use Rattle.script.specs.Texts.{sentence, encode_all}
use Rattle.script.proofs.Reading.{line-put}
use Rattle.script.proofs.text.put_line.Goals as goal

pub returns-in_err-found : goal.returns-in_err-found
returns-in_err-found c =
    let p = err_from_is_err_and c.from_residual.result c.from_residual.ensures.1 in
    rw (p.1, p.2) tt

pub returns : goal.returns
returns c =
    let old = vec_items c.args.out.now in
    let new = vec_items c.put_words.new.out in
    let put = subst (λ l. Puts (option_map encode_all (sentence (texts l))) old new c.put_words.result) c.deref.ensures.value c.put_words.ensures in
    line-put c.args.line.now c.code.result.now old new (texts (vec_items c.in_ok-found.found)) c.put_words.result c.code.ensures c.in_ok-found.ensures put
