use Rattle.std.proofs.Common.{◌≡◌, ◌+◌, ◌≤◌, leb, arith}
use Rattle.std.proofs.lemmas.Bool.Decides.{nat_tests}
use Rattle.model.specs.Basics.{pick}
use Rattle.pixels.specs.Pictures.{place}
use Rattle.pixels.proofs.Copies.{next, from_row, next-more, next-unwritten, next-below, copied_more, copied_all}
use Rattle.pixels.proofs.Part.copy.Goals as goal
use Rattle.pixels.proofs.Part.copy.Goals.{then-up, else-up}

pub loop-k-preserved : goal.loop-k-preserved
loop-k-preserved c =
    let s = c.args.self in
    let a = c.args.to.area.x in
    let b = c.args.to.area.y in
    let up = leb b s.area.y in
    let k = c.loop-k.k in
    let in_wide : a + s.area.wide ≤ s.picture.wide = rw (c.requires.picture, c.requires.wide) at c.args.to.columns in
    let in_high : b + s.area.high ≤ s.picture.high = rw (c.requires.picture, c.requires.high) at c.args.to.rows in
    let e : c.if-up.r ≡ next up s.area.high k =
    elim c.if-up.branch [ then-up w ↦ let x = w.if-up in let y = w.r-is in grind (arith, nat_tests, pick) | else-up w ↦ let x = w.if-up in let y = w.r-is in grind (arith, nat_tests, pick) ] in
    let t : c.row-in-loop-k.result ≡ place s.picture.at s.picture.wide a (b + c.if-up.r) = rw c.requires.picture at c.row-in-loop-k.ensures.value in
    let l = next-below up s.area.high k c.loop-k-test.true in
    copied_more s.picture.at s.picture.wide s.picture.high s.area.x s.area.y a b s.area.wide (from_row up b s.area.high k) k (from_row up b s.area.high (k + 1)) (k + 1) (next up s.area.high k) c.args.pictures.now c.loop-k.pictures c.copy_run.new.dots
    s.columns in_wide (omega arith) (next-unwritten s.area.y b s.area.high k c.loop-k-test.true) (λ j. next-more up b s.area.high k j c.loop-k-test.true) c.loop-k.invariant
    (rw (c.row.ensures.value, t, e) at c.copy_run.ensures)

pub returns : goal.returns
returns c =
    let s = c.args.self in
    let b = c.args.to.area.y in
    let in_wide : c.args.to.area.x + s.area.wide ≤ s.picture.wide = rw (c.requires.picture, c.requires.wide) at c.args.to.columns in
    let in_high : b + s.area.high ≤ s.picture.high = rw (c.requires.picture, c.requires.high) at c.args.to.rows in
    let e : c.loop-k.k ≡ s.area.high = omega arith in
    let f : from_row (leb b s.area.y) b s.area.high s.area.high ≡ b = grind (arith, nat_tests, pick) in
    copied_all s.picture s.area c.args.to.area.x b c.args.pictures.now c.loop-k.pictures s.columns s.rows in_wide in_high (rw (e, f) at c.loop-k.invariant)
