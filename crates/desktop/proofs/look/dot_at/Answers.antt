use Rattle.std.proofs.Common.{pos, Some, None, w16, SFits, rules}
use Rattle.std.proofs.lemmas.Int.{to_z-of_z}
use Rattle.desktop.proofs.Hearing.{found-listens}
use Rattle.desktop.proofs.Looking.{dot-none, dot-some, left-of, top_of}
use Rattle.desktop.proofs.look.dot_at.Goals as goal

pub returns-in_default-front_window : goal.returns-in_default-front_window
returns-in_default-front_window c hi hj =
    let s = c.args.s.now in
    let p = c.args.pictures.now in
    let fi : SFits w16 (pos c.args.i) = c.in-Ok-Ok.ensures.0 in
    let fj : SFits w16 (pos c.args.j) = c.in-Ok-Ok.ensures'.0 in
    let f = simp (c.in-Ok-Ok.ensures.1, c.in-Ok-Ok.ensures'.1, to_z-of_z) at c.in_default-front_window.ensures in
    dot-none s p c.args.i c.args.j (found-listens s p (pos c.args.i) (pos c.args.j) None f)

pub returns : goal.returns
returns c hi hj =
    let s = c.args.s.now in
    let p = c.args.pictures.now in
    let w = c.in-Some.w in
    let fi : SFits w16 (pos c.args.i) = c.in-Ok-Ok.ensures.0 in
    let fj : SFits w16 (pos c.args.j) = c.in-Ok-Ok.ensures'.0 in
    let fx : SFits w16 c.in-Some.w.x = search rules in
    let fy : SFits w16 c.in-Some.w.y = search rules in
    let f = simp (c.in-Ok-Ok.ensures.1, c.in-Ok-Ok.ensures'.1, to_z-of_z) at c.in-Some.ensures in
    let l = found-listens s p (pos c.args.i) (pos c.args.j) (Some (c.in-Some.field-0-0, w)) f in
    let a = simp to_z-of_z at c.past.ensures in
    let b = simp to_z-of_z at c.past-2.ensures in
    dot-some s p c.args.i c.args.j c.in-Some.field-0-0 w c.picture.result c.past.result c.past-2.result c.dot.result l.0 l.1 c.picture.ensures
    (a (left-of p w _ _ (f.covers p))) (b (top_of p w _ _ (f.covers p))) c.dot.ensures
