use Rattle.layout.specs.State.{desk_of}
use Rattle.damage.proofs.Deciding.{at-turned, at_moved, at-moved-to, at-painted, at-unpainted}
use Rattle.damage.proofs.types.Hurt.at.Goals as goal

pub returns-in-Turned : goal.returns-in-Turned
returns-in-Turned c p q =
    let h = c.args.self in
    let k = c.args.dot in
    at-turned h.how h.window h.area (desk_of c.args.before.now p) (desk_of c.args.after.now q) k.i k.j c.turned.result c.in-Turned.is (c.turned.ensures p q)

pub returns-then-turned : goal.returns-then-turned
returns-then-turned c p q =
    let h = c.args.self in
    let k = c.args.dot in
    at_moved h.how h.window h.area (desk_of c.args.before.now p) (desk_of c.args.after.now q) k.i k.j c.turned-in-Moved.result c.in-Moved.is c.if-turned.true (c.turned-in-Moved.ensures p q)

pub returns-else-turned : goal.returns-else-turned
returns-else-turned c p q =
    let h = c.args.self in
    let k = c.args.dot in
    at-moved-to h.how h.window h.area (desk_of c.args.before.now p) (desk_of c.args.after.now q) k.i k.j c.turned-in-Moved.result c.eq.result c.front.result c.in-Moved.is c.if-turned.false (c.turned-in-Moved.ensures p q)
    c.eq.ensures (c.front.ensures q)

pub returns-then-contains : goal.returns-then-contains
returns-then-contains c p q =
    let h = c.args.self in
    let k = c.args.dot in
    at-painted h.how h.window h.area (desk_of c.args.before.now p) (desk_of c.args.after.now q) k.i k.j c.contains.result c.eq-then-contains.result c.front-then-contains.result c.in-Painted.is c.if-contains.true c.contains.ensures
    c.eq-then-contains.ensures (c.front-then-contains.ensures p)

pub returns-else-contains : goal.returns-else-contains
returns-else-contains c p q =
    let h = c.args.self in
    let k = c.args.dot in
    at-unpainted h.how h.window h.area (desk_of c.args.before.now p) (desk_of c.args.after.now q) k.i k.j c.contains.result c.in-Painted.is c.if-contains.false c.contains.ensures
