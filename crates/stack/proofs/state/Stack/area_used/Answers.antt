use Rattle.std.proofs.Common.{refl, arith}
use Rattle.stack.specs.View.{slots_of}
use Rattle.stack.proofs.Areas.{area-step, area-end}
use Rattle.stack.proofs.state.Stack.area_used.Goals as goal

pub loop-slot-preserved : goal.loop-slot-preserved
loop-slot-preserved c = (
  λ p.
      let e = area-step p (slots_of c.args.self.now) c.loop-slot.slot-index _ c.loop-slot-test.true refl in
      omega (arith, c.loop-slot.invariant.0 p, c.dots_in-sum.ensures.value p),
  omega arith,
)

pub returns-clause-value : goal.returns-clause-value
returns-clause-value c p = let e = area-end p (slots_of c.args.self.now) c.loop-slot.slot-index c.loop-slot-test.false in omega (arith, c.loop-slot.invariant.0 p)
