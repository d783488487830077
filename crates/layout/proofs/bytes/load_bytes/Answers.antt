use Rattle.std.proofs.Common.{arith}
use Rattle.layout.specs.Head.{byte_in}
use Rattle.layout.proofs.Orders.{order-more}
use Rattle.layout.proofs.bytes.load_bytes.Goals as goal

pub loop-i-preserved : goal.loop-i-preserved
loop-i-preserved g c =
    let e = c.push.ensures in
    order-more (byte_in c.args.work.now c.args.at) _ c.loop-i.i c.byte_at.result _ _ c.push.result c.loop-i.invariant (omega arith) e.answer c.byte_at.ensures e.items
