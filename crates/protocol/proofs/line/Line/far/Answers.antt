use Rattle.std.proofs.Common.{rules}
use Rattle.protocol.proofs.Digits.{unfar_is}
use Rattle.protocol.proofs.line.Line.far.Goals as goal

pub returns : goal.returns
returns c = let e = unfar_is c.args.v (search rules) in search rules
