use Rattle.std.proofs.Common.{arith}
use Rattle.region.proofs.Wording.{boxed-one}
use Rattle.region.proofs.from_rect.Goals as goal

pub returns : goal.returns
returns c =
    boxed-one c.args.r c.args.out.now c.put_rect.new.s (record { wide = omega arith; on_right = omega arith; high = omega arith; on_below = omega arith }) (omega arith) (omega arith) (omega arith) c.put_rect.ensures.words
