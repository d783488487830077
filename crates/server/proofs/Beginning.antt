-- A start, put together.
use Rattle.std.proofs.Common.{◌≡◌, ℕ, ◌≤◌, Bool, true, false, List, length, None, sym, refl, ◌∙◌, subst, arith}
use Rattle.model.specs.Desk.{Sizes, empty}
use Rattle.layout.specs.Budget.{start_refusal, work_room}
use Rattle.layout.specs.State.{desk_of, Good}
use Rattle.layout.specs.Stored.{Storing}
use Rattle.layout.specs.declared.state.State.{State}
use Rattle.layout.proofs.Checked.{starts}
use Rattle.server.specs.Promise.{Begun}

pub begun : (z : Sizes) (s : State) (pictures work work' : List ℕ) (r : Bool) → start_refusal z (length pictures) (length work) ≡ None → desk_of s pictures ≡ empty z → Good z s (length pictures) →
    Storing z s work work' r → Begun z pictures pictures work'
begun z s pictures work work' true e d g h =
    let t = starts z (length pictures) (length work) e in
    record {
      sizes = h.sizes;
      sound = h.sound (length pictures) g (subst (λ n. work_room z ≤ n) (sym h.long) t.room);
      desk = h.desk g.limit g.packed pictures ∙ d;
      same = refl;
    }
begun z s pictures work work' false e d g h = let t = starts z (length pictures) (length work) e in absurd (omega (arith, t.room, h.0))
