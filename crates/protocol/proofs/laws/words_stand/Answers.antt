use Rattle.protocol.proofs.WordLaws.{reads-word-back, reads-words-only, word-faults-first, word-faults-where-none}
use Rattle.protocol.proofs.laws.words_stand.Goals as goal

pub returns : goal.returns
returns c = record { back = reads-word-back; only = reads-words-only; first = word-faults-first; none = word-faults-where-none }
