use Rattle.std.proofs.Common.{◌≡◌, arith}
use Rattle.pixels.proofs.Rows.{rows_none}
use Rattle.damage.proofs.Drawing.{dot-in, drawn-more, drawn-all}
use Rattle.damage.proofs.apply.Boxed.put.Goals as goal

pub loop-r-init : goal.loop-r-init
loop-r-init c = let s = c.args.self.now in rows_none 0 s.screen.wide s.screen.high s.head.x s.head.wide s.head.y (dot-in s.dots.now s.head) c.args.screen.now

pub loop-r-preserved : goal.loop-r-preserved
loop-r-preserved c =
    let s = c.args.self.now in
    drawn-more s.screen.wide s.screen.high s.head c.loop-r.r s.dots.now c.args.screen.now c.loop-r.screen c.put_row.new.screen s.lies (omega arith) c.loop-r.invariant c.put_row.ensures

pub returns : goal.returns
returns c =
    let s = c.args.self.now in
    let e : c.loop-r.r ≡ s.head.high = omega arith in
    drawn-all s.screen.wide s.screen.high s.head s.dots.now c.args.screen.now c.loop-r.screen (rw e at c.loop-r.invariant)
