use Rattle.std.proofs.Common.{◌∙◌}
use Rattle.protocol.proofs.Digits.{four_is}
use Rattle.protocol.proofs.fields.four_at.Goals as goal

pub returns : goal.returns
returns c = c.from_le_bytes.ensures ∙ four_is c.args.bytes.now c.args.at c.requires
