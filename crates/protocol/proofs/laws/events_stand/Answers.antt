use Rattle.protocol.proofs.EventLaws.{reads-back, reads_only, faults-first, faults-where-none, worked}
use Rattle.protocol.proofs.laws.events_stand.Goals as goal

pub returns : goal.returns
returns c = record { back = reads-back; only = reads_only; first = faults-first; none = faults-where-none; worked = worked }
