use Rattle.std.proofs.Common.{rules}
use Rattle.model.specs.Desk.{window}
use Rattle.stack.specs.View.{placed, put_at}
use Rattle.stack.proofs.Changed.{answer-by, changed-by, place-by}
use Rattle.stack.proofs.state.Stack.move_to.Goals as goal

pub returns-clause-answer : goal.returns-clause-answer
returns-clause-answer c = answer-by _ _ _ _ _ _ c.change.ensures.changed

pub returns-clause-windows : goal.returns-clause-windows
returns-clause-windows c =
    let s = c.args.self.now in
    let n = c.args.n in
    let x = c.args.x in
    let y = c.args.y in
    changed-by _ s c.args.c n (put_at x y) (λ d. placed (window d n) c.args.c x y) (λ w u h. search rules)
    (λ w o d p h. place-by s c.args.c n w o d p h x y) _ _ c.change.ensures.changed
