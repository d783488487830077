use Rattle.layout.proofs.Reload.{reloads}
use Rattle.layout.proofs.laws.reload_stands.Goals as goal

pub returns : goal.returns
returns c = reloads
