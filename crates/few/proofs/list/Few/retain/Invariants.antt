use Rattle.std.proofs.Common.{◌≡◌, ◌≤◌, Bool, List, length, take}
use Rattle.std.specs.Fn.{CalledAt}
use Rattle.std.specs.List.{items_where_true}
use Rattle.std.specs.List.Retain.{ReturnsInTurn}
use Rattle.few.specs.Held.{held}
use Rattle.few.proofs.list.Few.retain.Given as goal

-- f said bs of the elements so far, and those of which it said true stand at the front
abbrev pub invariant-loop-x : goal.invariant-loop-x
invariant-loop-x g l =
    goal.F-IsAlwaysCallable g l.f × (l.kept ≤ l.x-index)
    × ((bs : List Bool) × (length bs ≡ l.x-index) × ReturnsInTurn (CalledAt g.F.FnMut) l.initial.f bs (held l.fn.self) l.f × (take l.kept l.self.items ≡ items_where_true bs (held l.fn.self)))
