use Rattle.std.proofs.Common.{◌∙◌}
use Rattle.stack.specs.View.{slots_of, order_of}
use Rattle.stack.proofs.Slots.{length-slots}
use Rattle.layout.proofs.Orders.{orderly-by, orderly-not}
use Rattle.layout.proofs.order.order_good.Goals as goal

pub returns : goal.returns
returns c =
    let s = c.args.s.now in
    c.seen_once.ensures ∙ orderly-by (slots_of s) (order_of s) c.in-Some.seen s.limit c.in-Some.ensures (length-slots s)

pub returns-in_default : goal.returns-in_default
returns-in_default c =
    let s = c.args.s.now in orderly-not (slots_of s) (order_of s) s.limit c.in_default.ensures (length-slots s)
