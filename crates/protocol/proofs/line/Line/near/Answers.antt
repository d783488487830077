use Rattle.std.proofs.Common.{rules}
use Rattle.protocol.proofs.Digits.{unnear_is}
use Rattle.protocol.proofs.line.Line.near.Goals as goal

pub returns : goal.returns
returns c = let e = unnear_is c.args.v (search rules) in search rules
