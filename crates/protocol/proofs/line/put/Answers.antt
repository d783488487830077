use Rattle.std.proofs.Common.{arith}
use Rattle.protocol.proofs.Adding.{added-part}
use Rattle.protocol.proofs.line.put.Goals as goal

pub returns : goal.returns
returns c = added-part c.args.at _ _ _ _ _ (omega arith) (omega arith) c.requires c.copy_from_slice.ensures.after
