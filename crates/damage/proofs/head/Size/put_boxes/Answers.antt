use Rattle.std.proofs.Common.{[], ◌∷◌, subst}
use Rattle.damage.specs.Screen.{box_of, Shown}
use Rattle.damage.specs.declared.head.Size.{Size}
use Rattle.damage.proofs.Showing.{going_more, going-all}
use Rattle.damage.proofs.head.Size.put_boxes.Goals as goal

pub boxes-preserved : goal.boxes-preserved
boxes-preserved c =
    let b = c.in-Some.first in
    let f = c.in-Some.ensures in
    going_more c.args.self c.args.sent.now c.boxes.rest.now c.in-Some.behind.now b.dots.now b.screen b.head c.args.screen.now c.boxes.screen c.put.new.screen c.boxes.invariant f
    (subst (λ (z : Size). Shown z.wide z.high (box_of b.head b.dots.now ∷ []) c.boxes.screen c.put.new.screen) f.screen c.put.ensures)

pub returns : goal.returns
returns c = going-all c.args.self.wide c.args.self.high c.args.sent.now c.boxes.rest.now c.args.screen.now c.boxes.screen c.boxes.invariant c.in_default.ensures
