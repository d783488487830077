use Rattle.region.proofs.Walks.{boxes-runs}
use Rattle.region.proofs.boxes_of.Goals as goal

pub returns-clause-runs : goal.returns-clause-runs
returns-clause-runs c = boxes-runs
