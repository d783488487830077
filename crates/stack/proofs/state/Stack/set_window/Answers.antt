use Rattle.stack.specs.View.{slots_of}
use Rattle.stack.proofs.Slots.{slot-set, views-set}
use Rattle.stack.proofs.state.Stack.set_window.Goals as goal

pub returns-then-n-self-clause-slots : goal.returns-then-n-self-clause-slots
returns-then-n-self-clause-slots c = slot-set c.args.self.now.limit c.args.self.now.windows c.args.n c.args.w

pub returns-then-n-self-clause-windows : goal.returns-then-n-self-clause-windows
returns-then-n-self-clause-windows c p =
    let s = c.args.self.now in
    views-set p (slots_of s) _ c.args.n c.args.w (slot-set s.limit s.windows c.args.n c.args.w)
