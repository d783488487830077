use Rattle.std.proofs.Common.{true, false, length, sym, refl, ◌∙◌}
use Rattle.std.proofs.lemmas.Int.{to_z-of_z}
use Rattle.std.proofs.lemmas.List.{length_push, reverse-reverse}
use Rattle.std.proofs.lemmas.Iterator.Adapters.{YieldsList-from_rev_slice}
use Rattle.std.proofs.lemmas.Iterator.Consumers.{YieldsList-turn, YieldsList-end}
use Rattle.model.specs.Desk.{in_window, nothing}
use Rattle.stack.specs.View.{order_of}
use Rattle.stack.proofs.Slots.{slot-low}
use Rattle.stack.proofs.Fronts.{front-turn, front-end}
use Rattle.stack.proofs.state.Stack.front_window.Goals as goal

pub loop-n-init : goal.loop-n-init
loop-n-init c d p h = rw (reverse-reverse (order_of c.args.self.now)) refl

pub loop-n-preserved-in_default : goal.loop-n-preserved-in_default
unfolding in_window
loop-n-preserved-in_default c d p h =
    let fx = c.ranges.x in
    let fy = c.ranges.y in
    let order = order_of c.args.self.now in
    let t = YieldsList-turn (YieldsList-from_rev_slice order cc) c.loop-n.yielded _ c.loop-n.yielded_by _ _ c.in-Some.field-0 c.in-Some.is c.next.ensures.steps in
    let s = front-turn d order (length c.loop-n.yielded) c.in-Some.field-0.now c.args.x c.args.y nothing false t (c.in_default.ensures.value d p h) refl in
    let v = simp to_z-of_z at (c.loop-n.invariant d p h) in
    simp to_z-of_z (rw (length_push c.loop-n.yielded c.in-Some.field-0) (sym s ∙ v))

pub returns-then-covers : goal.returns-then-covers
returns-then-covers c =
    let fx = c.ranges.x in
    let fy = c.ranges.y in
    let f = c.in-Some-window.ensures in
    let order = order_of c.args.self.now in
    let u = YieldsList-turn (YieldsList-from_rev_slice order cc) c.loop-n.yielded _ c.loop-n.yielded_by _ _ c.in-Some.field-0 c.in-Some.is c.next.ensures.steps in
    record {
      slot = sym f.slot;
      low = slot-low c.args.self.now _ c.in-Some-window.w (sym f.slot);
      front = λ d p h.
          let t = simp to_z-of_z at (c.if-covers.ensures p) in
          let s = front-turn d order (length c.loop-n.yielded) c.in-Some.field-0.now c.args.x c.args.y _ true u (f.value d p h) t in
          let v = simp to_z-of_z at (c.loop-n.invariant d p h) in
          sym v ∙ s;
      value = λ d p h. sym (f.value d p h);
      covers = λ p. let t = simp to_z-of_z at (c.if-covers.ensures p) in sym t;
    }

pub loop-n-preserved : goal.loop-n-preserved
loop-n-preserved c d p h =
    let fx = c.ranges.x in
    let fy = c.ranges.y in
    let order = order_of c.args.self.now in
    let u = YieldsList-turn (YieldsList-from_rev_slice order cc) c.loop-n.yielded _ c.loop-n.yielded_by _ _ c.in-Some.field-0 c.in-Some.is c.next.ensures.steps in
    let t = simp to_z-of_z at (c.if-covers.ensures p) in
    let s = front-turn d order (length c.loop-n.yielded) c.in-Some.field-0.now c.args.x c.args.y _ false u (c.in-Some-window.ensures.value d p h) t in
    let v = simp to_z-of_z at (c.loop-n.invariant d p h) in
    simp to_z-of_z (rw (length_push c.loop-n.yielded c.in-Some.field-0) (sym s ∙ v))

pub returns : goal.returns
returns c d p h =
    let fx = c.ranges.x in
    let fy = c.ranges.y in
    let order = order_of c.args.self.now in
    let t = YieldsList-end (YieldsList-from_rev_slice order cc) c.loop-n.yielded _ c.loop-n.yielded_by _ _ c.in-None.is c.next.ensures.steps in
    let v = simp to_z-of_z at (c.loop-n.invariant d p h) in
    sym v ∙ front-end d order (length c.loop-n.yielded) c.args.x c.args.y t.1
