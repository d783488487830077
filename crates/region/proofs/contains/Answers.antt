use Rattle.std.proofs.Common.{sym, ◌∙◌, rules}
use borrow.Author.Tests.{tests}
use Rattle.std.proofs.lemmas.Iterator.Search.{any_from_yields_List}
use Rattle.geometry.specs.Boxes.{in_rect}
use Rattle.region.specs.Words.{rects}
use Rattle.region.proofs.Walks.{boxes-yield, covers-any}
use Rattle.region.proofs.contains.Goals as goal

pub returns : goal.returns
returns c =
    any_from_yields_List (λ r. in_rect r c.args.i c.args.j) c.any.new.self _ _ c.any.ensures.ran (boxes-yield c.boxes_of.result (rects c.args.a.now) c.boxes_of.ensures.value) (λ x b q k. search (rules, tests))
    ∙ sym (covers-any (rects c.args.a.now) c.args.i c.args.j)
