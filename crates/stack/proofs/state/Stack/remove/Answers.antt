use Rattle.std.proofs.Common.{◌∙◌, rules}
use Rattle.std.proofs.lemmas.Fn.{filter_same}
use Rattle.stack.proofs.Orders.{without-filter}
use Rattle.stack.proofs.state.Stack.remove.Goals as goal

pub returns-clause-order : goal.returns-clause-order
returns-clause-order c = filter_same _ _ _ (λ x b f' k. search rules) _ _ c.retain.ensures ∙ without-filter c.args.n _
