use Rattle.std.proofs.Common.{rules}
use Rattle.protocol.proofs.Digits.{far_is}
use Rattle.protocol.proofs.reader.Reader.far.Goals as goal

pub returns : goal.returns
returns c = let e = far_is c.four_at.result (search rules) in search rules
