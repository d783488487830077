use Rattle.pixels.proofs.Rows.{Rows}
use Rattle.pixels.proofs.Part.fill.Given as goal

abbrev pub invariant-loop-r : goal.invariant-loop-r
invariant-loop-r l =
    Rows l.self.picture.at l.self.picture.wide l.self.picture.high l.self.area.x l.self.area.wide l.self.area.y l.r (λ _ _. l.colour) l.initial.pictures l.pictures
