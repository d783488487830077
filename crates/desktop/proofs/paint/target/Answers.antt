use Rattle.std.proofs.Common.{◌≡◌, ℕ, List, Bool, true, false, Some, sym, ap, ◌∙◌, subst}
use Rattle.std.specs.Bool.{then_some}
use Rattle.std.proofs.lemmas.Bool.{and_left, and_right}
use Rattle.model.specs.Desk.{box_fits}
use Rattle.protocol.specs.declared.types.Patch.{Patch}
use Rattle.stack.specs.View.{view}
use Rattle.stack.specs.Found.{Own}
use Rattle.stack.specs.declared.state.Window.{Window}
use Rattle.stack.specs.declared.state.Stack.{Stack}
use Rattle.desktop.specs.Painting.{Target}
use Rattle.desktop.proofs.paint.target.Goals as goal

target-if : (s : Stack) (c n : ℕ) (b : Patch) (w : Window) (f : Bool) → Own s c n w → ((p : List ℕ) → f ≡ box_fits (view p (Some w)) b.x b.y b.wide b.high) → Target s c n b (then_some f w)
target-if s c n b w true o h = (o, λ p. sym (h p))
target-if s c n b w false o h = λ d p e. and_right _ _ (ap (λ v. box_fits v b.x b.y b.wide b.high) (o.value d p e) ∙ sym (h p))

pub returns-in_err-w : goal.returns-in_err-w
returns-in_err-w c = subst (Target c.args.s.now.stack c.args.program c.args.window c.args.patch) (sym c.from_residual.ensures) (λ d p e. and_left _ _ (c.in_err-w.ensures d p e))

pub returns : goal.returns
returns c =
    subst (Target c.args.s.now.stack c.args.program c.args.window c.args.patch) (sym c.then_some.ensures)
    (target-if c.args.s.now.stack c.args.program c.args.window c.args.patch c.in_ok-w.w c.has_box.result c.in_ok-w.ensures c.has_box.ensures)
