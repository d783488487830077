use Rattle.model.proofs.Worked.{worked}
use Rattle.model.proofs.worked_rows_stand.Goals as goal

pub returns : goal.returns
returns c = worked
