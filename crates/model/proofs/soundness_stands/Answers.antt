use Rattle.model.proofs.Sound.{sound}
use Rattle.model.proofs.soundness_stands.Goals as goal

pub returns : goal.returns
returns c = sound
