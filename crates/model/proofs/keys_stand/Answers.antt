use Rattle.model.proofs.Sound.{keys-to, held_by}
use Rattle.model.proofs.keys_stand.Goals as goal

pub returns : goal.returns
returns c = record { keys = keys-to; held = held_by }
