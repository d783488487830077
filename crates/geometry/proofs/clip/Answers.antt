use Rattle.std.proofs.Common.{◌≡◌, arith, w16, to_z, of_z}
use Rattle.std.proofs.lemmas.Int.{ints}
use Rattle.geometry.proofs.Spans.{and-four}
use Rattle.geometry.proofs.clip.Goals as goal

pub returns-clause-dots : goal.returns-clause-dots
returns-clause-dots c i j =
    let fx = c.ranges.x in
    let fy = c.ranges.y in
    let ex : to_z w16 (of_z w16 c.args.x) ≡ c.args.x = omega (arith, ints) in
    let ey : to_z w16 (of_z w16 c.args.y) ≡ c.args.y = omega (arith, ints) in
    rw (c.neat.ensures.dots i j, c.span-left.ensures.places i, c.span-top.ensures.places j, ex, ey) (search and-four)
