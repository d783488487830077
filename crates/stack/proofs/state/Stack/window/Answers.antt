use Rattle.std.proofs.Common.{sym, ap, ◌∙◌}
use Rattle.stack.specs.View.{view}
use Rattle.stack.proofs.Slots.{window-at}
use Rattle.stack.proofs.state.Stack.window.Goals as goal

pub returns-clause-value : goal.returns-clause-value
returns-clause-value c d p h = ap (view p) c.slot.ensures ∙ sym (window-at c.args.self.now d p c.args.n h)
