use Rattle.std.proofs.Common.{sym, ◌∙◌, arith, rules}
use Rattle.std.proofs.lemmas.Iterator.{YieldsList-from_map}
use Rattle.std.proofs.lemmas.Iterator.Consumers.{sum_by_from_yields_List, fits_by_from_yields_list, YieldsList-at}
use Rattle.region.specs.Words.{rects}
use Rattle.region.proofs.Measuring.{area-less}
use Rattle.region.proofs.Walks.{boxes-yield, area-sum, dots_one}
use Rattle.region.proofs.dots_of.Goals as goal

pub sum-requires-clause-fits : goal.sum-requires-clause-fits
sum-requires-clause-fits c =
    fits_by_from_yields_list dots_one (rects c.args.a.now) c.map.result _
    (YieldsList-from_map _ dots_one (YieldsList-at c.map.ensures.source (boxes-yield c.boxes_of.result (rects c.args.a.now) c.boxes_of.ensures.value)) c.map.ensures.closure (λ x r q k. search rules))
    (omega (arith, area-sum (rects c.args.a.now), area-less (rects c.args.a.now) c.requires))

pub returns : goal.returns
returns c =
    sum_by_from_yields_List dots_one (rects c.args.a.now) c.map.result _ c.sum.ensures.ran
    (YieldsList-from_map _ dots_one (YieldsList-at c.map.ensures.source (boxes-yield c.boxes_of.result (rects c.args.a.now) c.boxes_of.ensures.value)) c.map.ensures.closure (λ x r q k. search rules))
    ∙ sym (area-sum (rects c.args.a.now))
