use Rattle.desktop.proofs.person.press.Goals as goal

pub returns-then-down : goal.returns-then-down
returns-then-down c z p g = rw c.if-down.true (c.press_down.ensures z p g)

pub returns-else-down : goal.returns-else-down
returns-else-down c z p g = rw c.if-down.false (c.press_up.ensures z p g)
