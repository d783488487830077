use Rattle.std.proofs.Common.{◌≡◌, ◌+◌, ◌/◌, ◌≤◌, ◌==◌, length, drop, sym, ap, ◌∙◌, inl, arith, rules}
use borrow.Author.Tests.{tests}
use Rattle.std.proofs.lemmas.List.{length-drop}
use Rattle.std.proofs.lemmas.List.Folds.{length-prefix_len}
use Rattle.std.proofs.lemmas.Iterator.Consumers.{count_from_yields_List, YieldsList-at}
use Rattle.std.proofs.lemmas.Iterator.Search.{YieldsList-from_take_while}
use Rattle.region.specs.Reader.{leading}
use Rattle.region.specs.Words.{rects, boxes_left}
use Rattle.region.proofs.Wording.{rects-rest, length-rects}
use Rattle.region.proofs.Walks.{boxes-yield, leading-prefix, leading-short}
use Rattle.region.proofs.band_end.Goals as goal

pub count-requires-clause-fits : goal.count-requires-clause-fits
count-requires-clause-fits c =
    let e = ap boxes_left c.take_while.ensures.source ∙ (c.boxes_of.ensures.value ∙ rects-rest c.args.p c.args.a.now) in
    inl (omega (arith, ap length e, length-drop c.args.p (rects c.args.a.now), length-rects c.args.a.now))

counted : (c : goal.After-count) → c.count.result ≡ leading c.args.top (drop c.args.p (rects c.args.a.now))
counted c =
    let rest = drop c.args.p (rects c.args.a.now) in
    count_from_yields_List c.take_while.result _ c.count.ensures.ran (YieldsList-from_take_while _ (λ r. r.top == c.args.top) (YieldsList-at c.take_while.ensures.source (boxes-yield c.boxes_of.result rest (c.boxes_of.ensures.value ∙ rects-rest c.args.p c.args.a.now))) c.take_while.ensures.closure c.take_while.ensures.done (λ x b q k. search (rules, tests)))
    ∙ (length-prefix_len (λ r. r.top == c.args.top) rest ∙ sym (leading-prefix c.args.top rest))

pub overflow_add-result : goal.overflow_add-result
overflow_add-result c =
    let h : c.args.p + c.count.result ≤ length c.args.a.now / 2 = omega (arith, counted c, leading-short c.args.top (drop c.args.p (rects c.args.a.now)), length-drop c.args.p (rects c.args.a.now), length-rects c.args.a.now) in
    search rules

pub returns : goal.returns
returns c = ap (λ n. c.args.p + n) (counted c)
