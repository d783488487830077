use Rattle.std.proofs.Common.{◌∙◌, refl, rules, tests, arith}
use Rattle.std.proofs.lemmas.Iterator.{YieldsList-from_range}
use Rattle.std.proofs.lemmas.Iterator.Search.{all_from_yields_List}
use Rattle.layout.proofs.Each.{each-range}
use Rattle.layout.proofs.order.seen_once.Goals as goal

pub returns : goal.returns
returns c =
    let n = c.args.s.now.limit in
    all_from_yields_List _ _ _ _ c.all.ensures.ran (YieldsList-from_range 0 n n refl (omega arith)) (λ x b q k. search (rules, tests)) ∙ each-range _ n
