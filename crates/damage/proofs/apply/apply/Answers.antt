use Rattle.std.proofs.Common.{arith}
use Rattle.damage.proofs.apply.apply.Goals as goal

pub returns : goal.returns
returns c =
    let n = c.in_ok-applied.ensures in
    record { room = omega arith; counted = n; shown = c.put_boxes.ensures n.all n.read }
