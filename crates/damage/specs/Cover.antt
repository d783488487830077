-- How what an event damages is cut into boxes: the cells of the grid of all windows' edges.
use Rattle.std.specs.Prelude.{List, map}
use Rattle.model.specs.Desk.{Desk, Sizes, Event, after, dot}
use Rattle.model.specs.Promise.{Box}
use Rattle.model.specs.System.{Cover, coloured}
use Rattle.model.specs.Grid.{grid}

abbrev pub cover : Cover
cover = grid

-- what an event sends
abbrev pub sends_at : Sizes → Desk → Event → List Box
sends_at z d e = map (coloured (dot (after z d e).0)) (cover z d e)
