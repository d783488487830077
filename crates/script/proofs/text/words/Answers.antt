use Rattle.std.proofs.lemmas.Result.{IfOk-weaker}
use Rattle.script.proofs.Reading.{words-drained}
use Rattle.script.proofs.text.words.Goals as goal

pub returns : goal.returns
returns c =
    IfOk-weaker c.collect.result _ _
    (λ v h.
    let all = words-drained h.0 c.split_whitespace.result h.1.0 h.1.1 (h.1.2 tt).1.1 in
    rw (← c.split_whitespace.ensures.rest, h.2.0) all)
    c.collect.ensures.ran
