use Rattle.std.proofs.Common.{◌≡◌, ℤ, length, take, ◌*◌, ◌/◌, sym, subst, subst₂, ◌∙◌, arith, w16, to_z, of_z}
use Rattle.std.proofs.lemmas.Int.{ints}
use Rattle.region.specs.Shift.{Moves, Stays, shifted, coming, steps_forth, steps_back}
use Rattle.region.specs.Words.{rects}
use Rattle.region.proofs.Moving.{shift-stays, shift_made, moved-room, coming-region}
use Rattle.region.proofs.shift.Goals as goal

pub returns-in_err-n : goal.returns-in_err-n
returns-in_err-n c =
    subst (Moves (rects c.args.a.now) c.args.dx c.args.dy c.args.across c.args.down (length c.args.out.now / 2) c.meet_rect.new.out) (sym c.from_residual.ensures)
    (λ k X Y l h. c.in_err-n.ensures k (coming-region _ _ _ _ _ _ c.source.result c.source.ensures) (moved-room c.source.result (rects c.args.a.now) _ X Y l h))

pub move_boxes-requires : goal.move_boxes-requires
move_boxes-requires c =
    let fx = c.ranges.dx in
    let fy = c.ranges.dy in
    let ex : to_z w16 (of_z w16 c.args.dx) ≡ c.args.dx = omega (arith, ints) in
    let ey : to_z w16 (of_z w16 c.args.dy) ≡ c.args.dy = omega (arith, ints) in
    let m = c.in_ok-n.ensures in
    subst₂ (λ (x y : ℤ). Stays (steps_forth x) (steps_back x) (steps_forth y) (steps_back y) (rects (take (2 * c.in_ok-n.n) c.meet_rect.new.out))) (sym ex) (sym ey)
    (shift-stays c.args.dx c.args.dy c.args.across c.args.down (rects c.args.a.now) c.meet_rect.new.out c.in_ok-n.n c.source.result
    (c.source.ensures ∙ (λ i. coming (steps_forth (ex i)) (steps_back (ex i)) (steps_forth (ey i)) (steps_back (ey i)) c.args.across c.args.down)) m.0.0 m.1)

pub returns : goal.returns
returns c =
    let fx = c.ranges.dx in
    let fy = c.ranges.dy in
    let ex : to_z w16 (of_z w16 c.args.dx) ≡ c.args.dx = omega (arith, ints) in
    let ey : to_z w16 (of_z w16 c.args.dy) ≡ c.args.dy = omega (arith, ints) in
    let m = c.in_ok-n.ensures in (
      m.0.0,
      shift_made c.args.dx c.args.dy c.args.across c.args.down (rects c.args.a.now) c.meet_rect.new.out c.in_ok-n.n c.source.result
          (c.source.ensures ∙ (λ i. coming (steps_forth (ex i)) (steps_back (ex i)) (steps_forth (ey i)) (steps_back (ey i)) c.args.across c.args.down)) m.0.0 m.1 c.move_boxes.new.s _ c.move_boxes.auto.s
          (c.move_boxes.ensures ∙ (λ i. shifted (steps_forth (ex i)) (steps_back (ex i)) (steps_forth (ey i)) (steps_back (ey i)) (rects (take (2 * c.in_ok-n.n) c.meet_rect.new.out)))),
    )
