use Rattle.std.proofs.Common.{sym, subst}
use Rattle.std.proofs.lemmas.Int.{to_z-of_z}
use Rattle.desktop.specs.Person.{HeardBy}
use Rattle.desktop.proofs.person.listener.Goals as goal

pub returns-in-None : goal.returns-in-None
returns-in-None c =
    let fx = c.ranges.x in
    let fy = c.ranges.y in
    subst (λ k. HeardBy c.args.s.now k c.args.x c.args.y c.front_window.result) (sym c.in-None.is) (simp to_z-of_z at c.front_window.ensures)
