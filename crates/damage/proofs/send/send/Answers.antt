use Rattle.std.proofs.Common.{ℕ, List, [], length, refl, ap, ◌∙◌, arith}
use Rattle.model.specs.Promise.{FitsSizes}
use Rattle.protocol.specs.Meaning.{meaning}
use Rattle.stack.specs.View.{view}
use Rattle.layout.specs.Sizes.{sizes_of}
use Rattle.layout.specs.State.{desk_of}
use Rattle.damage.specs.Step.{Step}
use Rattle.damage.proofs.Left.{sent-none, sent_by}
use Rattle.damage.proofs.Gridding.{Gridded, gridded, sends_none, sends-fit, all-lent}
use Rattle.damage.proofs.send.send.Goals as goal

pub returns-in_default : goal.returns-in_default
returns-in_default c =
    record {
      sent = λ bs p step.
          sent_by c.args.at c.args.at [] _ c.args.sent.now c.args.sent.now
          (sends_none (sizes_of c.args.z) (desk_of c.args.before.now p) (meaning bs c.args.e) (c.in_default.ensures c.args.z bs p step.taken)) (sent-none c.args.at c.args.sent.now);
      low = omega arith;
    }

pub overflow_cast-z : goal.overflow_cast-z
unfolding FitsSizes
overflow_cast-z c = let h = c.requires.old.sizes in omega (arith, h.1)

pub overflow_cast-z-2 : goal.overflow_cast-z-2
unfolding FitsSizes
overflow_cast-z-2 c = let h = c.requires.old.sizes in omega (arith, h.3)

pub invariant_of-scene : goal.invariant_of-scene
unfolding FitsSizes
invariant_of-scene c =
    let z = sizes_of c.args.z in
    let q = c.args.pictures.now in
    let s = c.args.before.now in
    let s' = c.args.after.now in
    let r = c.requires.step in
    let g = gridded z s s' q r.1 (meaning r.0 c.args.e) c.in-Some.hurt (view q c.window-more.result) c.as_slice.result.now c.as_slice-2.result.now c.requires.old.sizes.1 c.requires.old.sizes.3
    (c.in-Some.ensures c.args.z r.0 r.1 r.2.taken) r.2.desk (c.window-more.ensures.value (desk_of s' q) q refl) (c.as_slice.ensures ∙ c.lines-xs.ensures r.1 q) (c.as_slice-2.ensures ∙ c.lines-ys.ensures r.1 q) in
    record { lent = all-lent c.args.z s' q c.requires.new; x_low = g.x_low; y_low = g.y_low; across = g.across; down = g.down }

pub send_cells-requires : goal.send_cells-requires
unfolding FitsSizes
send_cells-requires c =
    let z = sizes_of c.args.z in
    let q = c.args.pictures.now in
    let s = c.args.before.now in
    let s' = c.args.after.now in
    let r = c.requires.step in
    let e = meaning r.0 c.args.e in
    let g = gridded z s s' q r.1 e c.in-Some.hurt (view q c.window-more.result) c.as_slice.result.now c.as_slice-2.result.now c.requires.old.sizes.1 c.requires.old.sizes.3
    (c.in-Some.ensures c.args.z r.0 r.1 r.2.taken) r.2.desk (c.window-more.ensures.value (desk_of s' q) q refl) (c.as_slice.ensures ∙ c.lines-xs.ensures r.1 q) (c.as_slice-2.ensures ∙ c.lines-ys.ensures r.1 q) in
    let n = sends-fit z (desk_of s r.1) e (c.requires.old.sound r.1).len in
    let w = ap length g.sends in
    omega (arith, n, w, c.requires.room)

pub returns : goal.returns
unfolding FitsSizes
returns c =
    let z = sizes_of c.args.z in
    let q = c.args.pictures.now in
    let s = c.args.before.now in
    let s' = c.args.after.now in
    let g : (bs p : List ℕ) → Step c.args.z c.args.e c.args.taken s s' q bs p → Gridded z s s' q p (meaning bs c.args.e) c.in-Some.hurt c.as_slice.result.now c.as_slice-2.result.now =
    λ bs p step. gridded z s s' q p (meaning bs c.args.e) c.in-Some.hurt (view q c.window-more.result) c.as_slice.result.now c.as_slice-2.result.now c.requires.old.sizes.1 c.requires.old.sizes.3
    (c.in-Some.ensures c.args.z bs p step.taken) step.desk (c.window-more.ensures.value (desk_of s' q) q refl) (c.as_slice.ensures ∙ c.lines-xs.ensures p q) (c.as_slice-2.ensures ∙ c.lines-ys.ensures p q) in
    let r = c.requires.step in
    let n = sends-fit z (desk_of s r.1) (meaning r.0 c.args.e) (c.requires.old.sound r.1).len in
    let w = ap length (g r.0 r.1 r.2).sends in
    record {
      sent = λ bs p step. sent_by c.args.at c.send_cells.result _ _ c.args.sent.now c.send_cells.new.sent (g bs p step).sends c.send_cells.ensures;
      low = omega (arith, c.send_cells.ensures.ends, n, w);
    }
