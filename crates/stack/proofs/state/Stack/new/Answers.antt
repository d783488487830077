use Rattle.std.proofs.Common.{refl, rules}
use Rattle.stack.proofs.Slots.{slots-none, views-none}
use Rattle.stack.proofs.state.Stack.new.Goals as goal

pub returns-clause-slots : goal.returns-clause-slots
returns-clause-slots c = slots-none c.args.limit 255 _ refl (search rules)

pub returns-clause-windows : goal.returns-clause-windows
returns-clause-windows c p = views-none p c.args.limit _ (slots-none c.args.limit 255 _ refl (search rules))
