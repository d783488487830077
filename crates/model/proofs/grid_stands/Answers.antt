use Rattle.model.proofs.Grid.{grid-exact, few-boxes}
use Rattle.model.proofs.grid_stands.Goals as goal

pub returns : goal.returns
returns c = record { exact = grid-exact; few = few-boxes }
