use Rattle.std.proofs.Common.{◌≡◌, ◌+◌, ◌<◌, ltb, length, get_or, take, refl, ap, ◌∙◌, subst, arith, rules}
use Rattle.std.proofs.lemmas.List.{length-take-le, take_all}
use Rattle.std.proofs.lemmas.Bool.{le-ltb}
use Rattle.stack.specs.View.{order_of}
use Rattle.layout.specs.Loads.{Tally}
use Rattle.layout.proofs.Each.{all-false}
use Rattle.layout.proofs.Orders.{tally-start, tally-more, times-most}
use Rattle.layout.proofs.order.tally.Goals as goal

pub loop-n-init : goal.loop-n-init
loop-n-init c = tally-start c.args.s.now.limit _ c.args.s.now.low refl

pub loop-n-preserved : goal.loop-n-preserved
loop-n-preserved c =
    let s = c.args.s.now in
    let i = c.loop-n.n-index in
    let q = c.as_slice-n-items.ensures in
    tally-more s.limit i c.from-n.result (order_of s) c.loop-n.seen c.loop-n.invariant (omega (arith, ap length q)) (c.from-n.ensures ∙ ap (λ us. get_or us i 0) q) c.if-n-s.false s.low

pub overflow_add-seen : goal.overflow_add-seen
overflow_add-seen c =
    let s = c.args.s.now in
    let i = c.loop-n.n-index in
    let n = c.from-n.result in
    let o : length (order_of s) ≡ s.order.len = length-take-le s.order.len s.order.items (omega (arith, s.order.most, s.order.whole)) in
    let t = times-most n (take i (order_of s)) in
    let l : length (take i (order_of s)) ≡ i = length-take-le i (order_of s) (omega (arith, ap length c.as_slice-n-items.ensures)) in
    let h : get_or c.loop-n.seen n 0 + 1 < 256 = omega (arith, c.loop-n.invariant.count n c.if-n-s.false, s.order.most, ap length c.as_slice-n-items.ensures) in
    search rules

pub returns-then-n-s : goal.returns-then-n-s
returns-then-n-s c =
    let s = c.args.s.now in
    let i = c.loop-n.n-index in
    let q = c.as_slice-n-items.ensures in
    let e : c.from-n.result ≡ get_or (order_of s) i 0 = c.from-n.ensures ∙ ap (λ us. get_or us i 0) q in
    all-false (λ n. ltb n s.limit) (order_of s) i (omega (arith, ap length q)) (le-ltb (get_or (order_of s) i 0) s.limit (omega (arith, c.if-n-s.true)))

pub returns : goal.returns
returns c =
    let s = c.args.s.now in
    subst (λ us. Tally s.limit us c.loop-n.seen) (take_all c.loop-n.n-index (order_of s) (omega (arith, ap length c.as_slice-n-items.ensures))) c.loop-n.invariant
