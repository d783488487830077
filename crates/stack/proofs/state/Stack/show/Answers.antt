use Rattle.std.proofs.Common.{rules}
use Rattle.model.specs.Desk.{window}
use Rattle.stack.specs.View.{shown_as, put_on}
use Rattle.stack.proofs.Changed.{answer-by, changed-by, show-by}
use Rattle.stack.proofs.state.Stack.show.Goals as goal

pub returns-clause-answer : goal.returns-clause-answer
returns-clause-answer c = answer-by _ _ _ _ _ _ c.change.ensures.changed

pub returns-clause-windows : goal.returns-clause-windows
returns-clause-windows c =
    let s = c.args.self.now in
    let n = c.args.n in
    let on = c.args.on in
    changed-by _ s c.args.c n (put_on on) (λ d. shown_as (window d n) c.args.c on) (λ w u h. search rules)
    (λ w o d p h. show-by s c.args.c n w o d p h on) _ _ c.change.ensures.changed
