use Rattle.stack.specs.View.{order_of}
use Rattle.stack.proofs.Slots.{order-few}
use Rattle.stack.proofs.Orders.{raised}
use Rattle.stack.proofs.state.Stack.raise.Goals as goal

pub returns-clause-order : goal.returns-clause-order
returns-clause-order c =
    let s = c.args.self.now in
    let put = c.append.ensures in
    raised 255 c.args.n (order_of s) (order_of c.remove.new.self) (order_of c.append.new.self) c.append.result (order-few s) c.remove.ensures.order put.answer put.order
