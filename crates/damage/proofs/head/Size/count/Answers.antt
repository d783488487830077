use Rattle.std.proofs.Common.{◌≡◌, ◌<◌, length, rules}
use Rattle.damage.proofs.Walking.{passed-more, passed-all, passed-bad}
use Rattle.damage.proofs.head.Size.count.Goals as goal

pub returns-in_err-first : goal.returns-in_err-first
returns-in_err-first c =
    let h : 0 < length c.boxes.rest.now = search rules in
    rw c.from_residual.ensures (passed-bad c.args.self.wide c.args.self.high c.args.sent.now c.boxes.rest.now c.boxes.boxes c.boxes.dots c.boxes.invariant (c.in_err-first.ensures h))

pub boxes-preserved : goal.boxes-preserved
boxes-preserved c =
    passed-more c.args.self c.args.sent.now c.boxes.rest.now c.in_ok-first.behind.now c.in_ok-first.first.dots.now c.boxes.boxes c.boxes.dots c.in_ok-first.first.screen c.in_ok-first.first.head c.boxes.invariant
    c.in_ok-first.ensures

pub returns : goal.returns
returns c =
    let e : length c.boxes.rest.now ≡ 0 = search rules in
    passed-all c.args.self.wide c.args.self.high c.args.sent.now c.boxes.rest.now c.boxes.boxes c.boxes.dots c.boxes.invariant e
