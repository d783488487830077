use Rattle.std.proofs.Common.{ℕ, ◌<◌, length, Bool, true, false, rules}
use borrow.Author.Tests.{tests}
use Rattle.std.specs.Bool.{MatchBool}
use Rattle.std.specs.List.{AllWithin, HoldsAt}
use Rattle.std.proofs.lemmas.Iterator.{cases_from_all}
use Rattle.geometry.specs.Boxes.{Empty, blank}
use Rattle.region.specs.Dots.{NoDots}
use Rattle.region.specs.Words.{rects}
use Rattle.region.proofs.Walks.{boxes-yield, none-covers, some-covers}
use Rattle.region.proofs.is_empty.Goals as goal

pub returns : goal.returns
returns c =
    by c.all.result
    (cases_from_all c.all.new.self _ _ (Empty true) (Empty false) c.all.ensures.ran (boxes-yield c.boxes_of.result (rects c.args.a.now) c.boxes_of.ensures.value) (λ x q k. search (rules, tests)) (λ x q k. search (rules, tests)))
  where
    by : (b : Bool) → MatchBool b (AllWithin (Empty true) (rects c.args.a.now) 0 (length (rects c.args.a.now))) ((k : ℕ) × (k < length (rects c.args.a.now)) × HoldsAt (Empty false) (rects c.args.a.now) k) → NoDots b (rects c.args.a.now)
    by true h = none-covers (rects c.args.a.now) h
    by false h = some-covers (rects c.args.a.now) h.0 h.1 (h.2 blank)
