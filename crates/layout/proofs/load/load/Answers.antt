use Rattle.std.proofs.Common.{◌&&◌, List, None, Option, sym, ap, ◌∙◌, subst, w16, SFits, to_z, of_z, rules}
use Rattle.std.proofs.lemmas.Int.{to_z-of_z}
use Rattle.stack.specs.declared.state.Window.{Window}
use Rattle.layout.specs.declared.state.State.{State}
use Rattle.layout.specs.Head.{word, low, high, handed}
use Rattle.layout.specs.Loads.{Hands, LoadedAs, Loaded}
use Rattle.layout.proofs.Checked.{too_short}
use Rattle.layout.proofs.Holds.{no_room, no_stack, no-clip, no-hands, loaded}
use Rattle.layout.proofs.load.load.Goals as goal

pub returns-in_err-head : goal.returns-in_err-head
returns-in_err-head c = rw c.from_residual.ensures (no_room c.args.work.now c.args.pictures (too_short c.args.work.now c.args.pictures c.in_err-head.ensures))

pub returns-in_err-z : goal.returns-in_err-z
returns-in_err-z c =
    let work = c.in_ok-head.head.work.now in
    rw c.from_residual-in_err-z.ensures (subst (λ w. Loaded w c.args.pictures None) c.in_ok-head.ensures (no_room work c.args.pictures c.in_err-z.ensures))

pub returns-in_err-stack : goal.returns-in_err-stack
returns-in_err-stack c =
    let work = c.in_ok-head.head.work.now in
    rw c.from_residual-in_err-stack.ensures (subst (λ w. Loaded w c.args.pictures None) c.in_ok-head.ensures (no_stack work c.args.pictures c.in_err-stack.ensures))

pub returns-in_err-clip : goal.returns-in_err-clip
returns-in_err-clip c =
    let work = c.in_ok-head.head.work.now in
    rw c.from_residual-in_err-clip.ensures (subst (λ w. Loaded w c.args.pictures None) c.in_ok-head.ensures (no-clip work c.args.pictures c.in_err-clip.ensures))

pub returns-in_err-keys : goal.returns-in_err-keys
returns-in_err-keys c =
    let work = c.in_ok-head.head.work.now in
    rw c.from_residual-in_err-keys.ensures (subst (λ w. Loaded w c.args.pictures None) c.in_ok-head.ensures (no-hands work c.args.pictures
    (sym (ap (λ (os : List (Option Window)). handed os (low (word work 7)) && handed os (high (word work 7))) c.in_ok-stack.ensures.slots) ∙ c.in_err-keys.ensures)))

pub returns : goal.returns
returns c =
    let work = c.in_ok-head.head.work.now in
    let h = c.in_ok-keys in
    let x = c.load_place-x.result.0 in
    let y = c.load_place-x.result.1 in
    let fx : SFits w16 c.load_place-x.result.0 = search rules in
    let fy : SFits w16 c.load_place-x.result.1 = search rules in
    let s : State =
    record {
      stack = c.in_ok-stack.stack;
      x = to_z w16 (of_z w16 x);
      y = to_z w16 (of_z w16 y);
      keys = h.keys;
      held = h.held;
      clip = c.in_ok-clip.clip;
    }
    in
    subst (λ w. LoadedAs w c.args.pictures c.in_ok-z.z s) c.in_ok-head.ensures (loaded work c.args.pictures c.in_ok-z.z s c.in_ok-z.ensures c.in_ok-stack.ensures c.in_ok-clip.ensures
    (subst (λ (os : List (Option Window)). Hands os (word work 7) h.keys h.held) c.in_ok-stack.ensures.slots h.ensures)
    (to_z-of_z w16 x fx ∙ c.load_place-x.ensures.across) (to_z-of_z w16 y fy ∙ c.load_place-x.ensures.down))
