use Rattle.std.proofs.Common.{rules}
use Rattle.protocol.proofs.Digits.{near_is}
use Rattle.protocol.proofs.reader.Reader.near.Goals as goal

pub returns : goal.returns
returns c = let e = near_is c.two_at.result (search rules) in search rules
