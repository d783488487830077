use Rattle.layout.specs.Laws.{SoundWorks}
use Rattle.layout.proofs.Holds.{sound-holds}
use Rattle.layout.proofs.laws.soundness_stands.Goals as goal

pub returns : goal.returns
unfolding SoundWorks
returns c = sound-holds
