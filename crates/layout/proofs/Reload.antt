-- What is loaded is what was stored.
use Rattle.std.proofs.Common.{ℕ, ◌≤◌, List, length, Some, None, Option, ◌∙◌}
use Rattle.std.proofs.lemmas.Bool.{both_ways}
use Rattle.layout.specs.declared.sizes.Sizes.{Sizes}
use Rattle.layout.specs.declared.state.State.{State}
use Rattle.layout.specs.Sizes.{sizes_of}
use Rattle.layout.specs.State.{Good}
use Rattle.layout.specs.Budget.{work_room}
use Rattle.layout.specs.Head.{sound_in}
use Rattle.layout.specs.Loads.{Loaded}
use Rattle.layout.specs.Stored.{Stored}
use Rattle.layout.specs.Laws.{Reloads, Reloaded}

again : (z : Sizes) (s : State) (work work' : List ℕ) (size : ℕ) (r : Option (Sizes × State)) → Stored (sizes_of z) s work work' → Good (sizes_of z) s size →
    work_room (sizes_of z) ≤ length work' → Loaded work' size r → Reloaded z s r
again z s work work' size None st g room l = both_ways (sound_in work' size) l (st.sound size g room)
again z s work work' size (Some r) st g room l = (l.sizes ∙ st.sizes, λ p. l.desk p ∙ st.desk g.limit g.packed p)

pub reloads : Reloads
unfolding Reloads
reloads = again
