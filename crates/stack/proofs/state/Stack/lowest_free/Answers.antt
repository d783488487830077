use Rattle.std.proofs.Common.{not, is_some, ◌∙◌, rules, tests}
use Rattle.std.proofs.lemmas.Iterator.{YieldsList-from_slice}
use Rattle.std.proofs.lemmas.Iterator.Search.{position_from_yields_List}
use Rattle.stack.specs.View.{slots_of}
use Rattle.stack.proofs.Slots.{length-slots}
use Rattle.stack.proofs.Frees.{none-by, free-position}
use Rattle.stack.proofs.state.Stack.lowest_free.Goals as goal

pub returns-clause-value : goal.returns-clause-value
returns-clause-value c p =
    let s = c.args.self.now in
    let e = position_from_yields_List (λ o. not (is_some o)) _ _ c.position-free.result c.position-free.ensures.ran (YieldsList-from_slice (slots_of s) cc) (λ x b q k. search (rules, tests, none-by)) in
    c.unwrap_or.ensures ∙ free-position p (slots_of s) c.position-free.result s.limit e (length-slots s)
