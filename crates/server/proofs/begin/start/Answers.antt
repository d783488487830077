use Rattle.std.proofs.Common.{◌≤◌, length, sym, refl, arith}
use Rattle.model.specs.Promise.{FitsSizes}
use Rattle.layout.specs.Sizes.{sizes_of}
use Rattle.layout.proofs.Checked.{starts}
use Rattle.server.proofs.Beginning.{begun}
use Rattle.server.proofs.begin.start.Goals as goal

pub overflow_cast-z : goal.overflow_cast-z
unfolding FitsSizes
overflow_cast-z c =
    let t = starts (sizes_of c.args.z) (length c.args.pictures.now) (length c.args.work.now) (sym c.in_default.ensures) in
    let w : c.args.z.windows ≤ 255 = t.fits.4 in omega (arith, w)

pub returns : goal.returns
returns c =
    let z = sizes_of c.args.z in
    let p = c.args.pictures.now in
    let e = sym c.in_default.ensures in
    let t = starts z (length p) (length c.args.work.now) e in
    let n = c.new-s.ensures in
    (e, begun z c.new-s.result p c.args.work.now c.store.new.work c.store.result e (n.desk z refl p) (n.good z (length p) refl t.fits t.dots) c.store.ensures)
