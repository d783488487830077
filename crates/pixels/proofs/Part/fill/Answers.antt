use Rattle.std.proofs.Common.{◌≡◌, ◌+◌, refl, arith}
use Rattle.pixels.proofs.Runs.{run-next}
use Rattle.pixels.proofs.Rows.{rows_more, rows_all}
use Rattle.pixels.proofs.Part.fill.Goals as goal

pub loop-r-preserved : goal.loop-r-preserved
loop-r-preserved c =
    let s = c.args.self in
    rows_more s.picture.at s.picture.wide s.picture.high s.area.x s.area.wide s.area.y c.loop-r.r s.area.y (c.loop-r.r + 1) (s.area.y + c.loop-r.r)
    (λ _ _. c.args.colour) (λ _. c.args.colour) c.args.pictures.now c.loop-r.pictures c.fill_run.new.dots
    s.columns (omega arith) (run-next s.area.y c.loop-r.r) c.loop-r.invariant
    (rw c.row.ensures.value at c.fill_run.ensures) (λ i a b. refl)

pub returns : goal.returns
returns c =
    let s = c.args.self in
    let e : c.loop-r.r ≡ s.area.high = omega arith in
    let p = rw e at c.loop-r.invariant in
    record {
      dots = rows_all s.picture.at s.picture.wide s.picture.high s.area.x s.area.y s.area.wide s.area.high (λ _ _. c.args.colour) (λ _ _. c.args.colour) c.args.pictures.now c.loop-r.pictures
          s.columns s.rows p (λ i j a b d f. refl);
      others = p.others;
      len = p.len;
    }
