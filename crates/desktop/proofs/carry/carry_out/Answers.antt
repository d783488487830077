use Rattle.std.proofs.Common.{w16, SFits, rules}
use Rattle.std.proofs.lemmas.Int.{to_z-of_z}
use Rattle.desktop.proofs.carry.carry_out.Goals as goal

pub returns-in-Move : goal.returns-in-Move
returns-in-Move c g h =
    let fx : SFits w16 c.in-Move.x = search rules in
    let fy : SFits w16 c.in-Move.y = search rules in
    rw c.in-Move.is (simp to_z-of_z at (c.move_to.ensures c.args.z c.args.pictures.now g))

pub returns-in-Raise : goal.returns-in-Raise
returns-in-Raise c g h = rw c.in-Raise.is (c.raise.ensures c.args.z c.args.pictures.now g)

pub returns-in-Show : goal.returns-in-Show
returns-in-Show c g h = rw c.in-Show.is (c.show.ensures c.args.z c.args.pictures.now g)

pub returns-in-Offer : goal.returns-in-Offer
returns-in-Offer c g h = rw c.in-Offer.is (c.offer.ensures (rw c.in-Offer.is at h) c.args.z c.args.pictures.now g)

pub returns-in-Press : goal.returns-in-Press
returns-in-Press c g h = rw c.in-Press.is (c.press.ensures c.args.z c.args.pictures.now g)

pub returns-in-Key : goal.returns-in-Key
returns-in-Key c g h = rw c.in-Key.is (c.key.ensures c.args.z c.args.pictures.now g)

pub returns-in-Paste : goal.returns-in-Paste
returns-in-Paste c g h = rw c.in-Paste.is (c.paste.ensures c.args.z c.args.pictures.now g)
