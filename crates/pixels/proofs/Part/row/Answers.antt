use Rattle.std.proofs.Common.{◌+◌, arith}
use Rattle.pixels.proofs.Runs.{row-after}
use Rattle.pixels.proofs.Part.row.Goals as goal

pub overflow_mul-result : goal.overflow_mul-result
overflow_mul-result c = let a = row-after (c.args.self.area.y + c.args.r) c.args.self.picture.high c.args.self.picture.wide (omega arith) in omega arith

pub overflow_add-result-3 : goal.overflow_add-result-3
overflow_add-result-3 c = let a = row-after (c.args.self.area.y + c.args.r) c.args.self.picture.high c.args.self.picture.wide (omega arith) in omega arith

pub returns-clause-room : goal.returns-clause-room
returns-clause-room c = let a = row-after (c.args.self.area.y + c.args.r) c.args.self.picture.high c.args.self.picture.wide (omega arith) in omega arith
