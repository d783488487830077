use Rattle.std.proofs.Common.{vec_items, sym, ◌∙◌, subst}
use Rattle.script.specs.Putting.{Puts}
use Rattle.script.proofs.Reading.{sentence-named}
use Rattle.script.proofs.text.put_words.Goals as goal

pub returns : goal.returns
returns c =
    let e = sentence-named c.args.words.now c.in-Some.word.now c.in-Some.fields.now c.in_ok-kind.kind c.in-Some.ensures.cases.0 (sym c.in_ok-kind.ensures.ok_part ∙ c.named.ensures) in
    subst (λ o. Puts o (vec_items c.args.out.now) (vec_items c.put_event.new.out) c.put_event.result) (sym e) c.put_event.ensures
