use Rattle.std.proofs.Common.{refl}
use Rattle.model.specs.Desk.{sender}
use Rattle.protocol.specs.Meaning.{part}
use Rattle.desktop.proofs.Carrying.{refusal}
use Rattle.desktop.proofs.Hearing.{offer-taken}
use Rattle.desktop.proofs.person.offer.Goals as goal

pub returns-in_default : goal.returns-in_default
unfolding sender
returns-in_default c l z p g = refusal z c.args.program c.answer.ensures g (c.in_default.ensures l z p g) refl

pub returns : goal.returns
returns c l z p g = offer-taken z c.args.s.now p c.args.program (part 1 c.args.call.now c.args.bytes) c.answer-2.ensures g (c.in-Some.ensures l z p g)
