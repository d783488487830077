use Rattle.std.proofs.Common.{refl}
use Rattle.std.proofs.lemmas.Nat.{mul-le}
use Rattle.layout.proofs.budget.times_small.Goals as goal

pub returns : goal.returns
returns c = record { value = refl; small = mul-le c.args.a c.args.b 4096 1048576 c.requires.first c.requires.second }
