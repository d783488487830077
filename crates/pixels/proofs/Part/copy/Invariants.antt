use Rattle.pixels.proofs.Rows.{Rows}
use Rattle.pixels.proofs.Copies.{source, from_row}
use Rattle.pixels.proofs.Part.copy.Given as goal

abbrev pub invariant-loop-k : goal.invariant-loop-k
invariant-loop-k l =
    Rows l.self.picture.at l.self.picture.wide l.self.picture.high l.to.area.x l.self.area.wide (from_row l.up l.to.area.y l.high l.k) l.k
    (source l.self.picture.at l.self.picture.wide l.self.area.x l.self.area.y l.to.area.x l.to.area.y l.initial.pictures) l.initial.pictures l.pictures
