use Rattle.std.proofs.Common.{rules}
use Rattle.stack.proofs.Slots.{owned-by}
use Rattle.stack.proofs.state.Stack.owned.Goals as goal

pub returns : goal.returns
returns c = owned-by c.args.self.now c.args.c c.args.n c.window.result c.filter.result _ c.window.ensures.slot (λ d p h. c.window.ensures.value d p h) c.filter.ensures (λ x b k. search rules)
