use Rattle.std.proofs.Common.{w16, w32, SFits, rules}
use Rattle.std.proofs.lemmas.Int.{to_z-of_z}
use Rattle.model.specs.Promise.{FitsSizes}
use Rattle.desktop.proofs.Hearing.{point-quiet, point-told}
use Rattle.desktop.proofs.person.point.Goals as goal

pub returns-in_err-n : goal.returns-in_err-n
unfolding FitsSizes
returns-in_err-n c p g =
    let fx = c.ranges.x in
    let fy = c.ranges.y in
    let px : SFits w16 c.nearest_dot-px.result = search rules in
    let py : SFits w16 c.nearest_dot-py.result = search rules in
    simp to_z-of_z
    (point-quiet c.args.z g c.nearest_dot-px.result c.nearest_dot-py.result (simp to_z-of_z at (c.nearest_dot-px.ensures g.sizes.1)) (simp to_z-of_z at (c.nearest_dot-py.ensures g.sizes.3))
    c.from_residual.ensures (simp to_z-of_z at c.in_err-n.ensures))

pub returns : goal.returns
unfolding FitsSizes
returns c p g =
    let fx = c.ranges.x in
    let fy = c.ranges.y in
    let px : SFits w16 c.nearest_dot-px.result = search rules in
    let py : SFits w16 c.nearest_dot-py.result = search rules in
    let wx : SFits w16 c.in_ok-n.w.x = search rules in
    let wy : SFits w16 c.in_ok-n.w.y = search rules in
    let ox : SFits w32 c.offset.result = search rules in
    let oy : SFits w32 c.offset-2.result = search rules in
    simp to_z-of_z
    (point-told c.args.z g c.nearest_dot-px.result c.nearest_dot-py.result c.in_ok-n.n c.in_ok-n.w (simp to_z-of_z at (c.nearest_dot-px.ensures g.sizes.1)) (simp to_z-of_z at (c.nearest_dot-py.ensures g.sizes.3))
    (simp to_z-of_z at c.in_ok-n.ensures) (simp to_z-of_z at c.offset.ensures) (simp to_z-of_z at c.offset-2.ensures))
