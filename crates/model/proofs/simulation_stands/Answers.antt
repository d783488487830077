use Rattle.model.proofs.Simulate.{simulation}
use Rattle.model.proofs.simulation_stands.Goals as goal

pub returns : goal.returns
returns c = λ _. simulation _
