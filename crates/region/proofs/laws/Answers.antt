use Rattle.region.proofs.Theorems.{unique, is_found, few, box-is}
use Rattle.region.proofs.Overlap.{apart}
use Rattle.region.proofs.Measuring.{measured}
use Rattle.region.proofs.laws.Goals as goal

pub returns : goal.returns
returns c = record { unique = unique; found = is_found; few = few; single = box-is; apart = apart; measured = measured }
