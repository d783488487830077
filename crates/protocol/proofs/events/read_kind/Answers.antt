use Rattle.std.proofs.Common.{Ok, refl, ap}
use Rattle.model.specs.Desk.{paste}
use Rattle.protocol.proofs.events.read_kind.Goals as goal

pub returns-in-Make : goal.returns-in-Make
returns-in-Make c = rw c.in-Make.is c.read_make.ensures

pub returns-in-Close : goal.returns-in-Close
returns-in-Close c = rw c.in-Close.is c.read_close.ensures

pub returns-in-Move : goal.returns-in-Move
returns-in-Move c = rw c.in-Move.is c.read_move.ensures

pub returns-in-Raise : goal.returns-in-Raise
returns-in-Raise c = rw c.in-Raise.is c.read_raise.ensures

pub returns-in-Show : goal.returns-in-Show
returns-in-Show c = rw c.in-Show.is c.read_show.ensures

pub returns-in-Fill : goal.returns-in-Fill
returns-in-Fill c = rw c.in-Fill.is c.read_fill.ensures

pub returns-in-Put : goal.returns-in-Put
returns-in-Put c = rw c.in-Put.is c.read_put.ensures

pub returns-in-Copy : goal.returns-in-Copy
returns-in-Copy c = rw c.in-Copy.is c.read_copy.ensures

pub returns-in-Offer : goal.returns-in-Offer
returns-in-Offer c = rw c.in-Offer.is c.read_offer.ensures

pub returns-in-Point : goal.returns-in-Point
returns-in-Point c = rw c.in-Point.is (c.read_point.ensures c.args.programs)

pub returns-in-Press : goal.returns-in-Press
returns-in-Press c = rw c.in-Press.is (c.read_press.ensures c.args.programs)

pub returns-in-Key : goal.returns-in-Key
returns-in-Key c = rw c.in-Key.is (c.read_key.ensures c.args.programs)

pub returns-in-Paste : goal.returns-in-Paste
returns-in-Paste c = rw c.in-Paste.is (ap (λ to. Ok (paste, to)) c.end.ensures, refl)
