use Rattle.server.proofs.Rows.{rows_told, rows-unseen, row-alone}
use Rattle.server.proofs.laws.rows_stand.Goals as goal

pub returns : goal.returns
returns c = record { told = rows_told; unseen = rows-unseen; alone = row-alone }
