use Rattle.std.proofs.Common.{sym, ◌∙◌, arith, rules}
use borrow.Author.Tests.{tests}
use Rattle.std.proofs.lemmas.Bool.{ne_eqb}
use Rattle.std.proofs.lemmas.Iterator.{YieldsList-from_zip}
use Rattle.std.proofs.lemmas.Iterator.Consumers.{YieldsList-at}
use Rattle.std.proofs.lemmas.Iterator.Search.{all_from_yields_List}
use Rattle.region.specs.Words.{rects}
use Rattle.region.proofs.Wording.{length-rects}
use Rattle.region.proofs.Walks.{boxes-yield, same_one, same-zip, same-long}
use Rattle.region.proofs.same_row.Goals as goal

pub returns-then-u-v : goal.returns-then-u-v
returns-then-u-v c =
    all_from_yields_List same_one c.all.new.self _ _ c.all.ensures.ran
    (YieldsList-from_zip (YieldsList-at c.zip.ensures.first (boxes-yield c.boxes_of.result (rects c.args.u.now) c.boxes_of.ensures.value)) (YieldsList-at c.zip.ensures.second (boxes-yield c.boxes_of-then-u-v.result (rects c.args.v.now) c.boxes_of-then-u-v.ensures.value)))
    (λ x b q k. search (rules, tests))
    ∙ sym (same-zip (rects c.args.u.now) (rects c.args.v.now) (omega (arith, length-rects c.args.u.now, length-rects c.args.v.now)))

pub returns-else-u-v : goal.returns-else-u-v
returns-else-u-v c = ne_eqb _ _ c.if-u-v.false ∙ sym (same-long (rects c.args.u.now) (rects c.args.v.now) (λ e. c.if-u-v.false (omega (arith, e, length-rects c.args.u.now, length-rects c.args.v.now))))
