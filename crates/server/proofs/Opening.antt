-- A call on lent memory, put together: what was loaded, carried out and stored again.
use Rattle.std.proofs.Common.{◌≡◌, ℕ, ◌≤◌, Bool, true, false, List, length, Some, None, sym, ◌∙◌, subst, arith}
use Rattle.model.specs.Desk as desk
use Rattle.model.specs.Promise.{FitsSizes}
use Rattle.layout.specs.Budget.{work_room}
use Rattle.layout.specs.Loads.{LoadedAs}
use Rattle.layout.specs.Ranges.{Ranges}
use Rattle.layout.specs.Sizes.{sizes_of, size_refusal}
use Rattle.layout.specs.State.{desk_of, Good}
use Rattle.layout.specs.Stored.{Storing}
use Rattle.layout.specs.declared.sizes.Sizes.{Sizes}
use Rattle.layout.specs.declared.state.State.{State}
use Rattle.layout.proofs.Ranges.{ranges}
use Rattle.server.specs.Course.{read_call}
use Rattle.server.specs.Promise.{Ran, Called, Promised, lent_of}
use Rattle.server.specs.declared.outcome.Outcome.{Outcome}

-- sizes in their ranges are not refused
pub not-sized : (z : desk.Sizes) (r : ℕ × ℕ) → FitsSizes z → size_refusal z ≡ Some r → ⊥
unfolding Ranges
not-sized z r f e = some-none r (sym e ∙ (ranges z).1 f)
  where
    some-none : (r : ℕ × ℕ) → Some r ≡ None → ⊥
    some-none r q = let t : ◌≡◌ {A = ℕ} 0 1 = cc in omega arith

module _ (call pictures work sent words pictures' work' sent' words' : List ℕ) (r : Outcome) (z : Sizes) (s s' : State) (l : LoadedAs work (length pictures) z s) where
  opened : (b : Bool) → Good (sizes_of z) s' (length pictures') →
      Ran (sizes_of z) (read_call (sizes_of z) call (lent_of pictures work sent words)) (desk_of s pictures) sent words (desk_of s' pictures') sent' words' r →
      Storing (sizes_of z) s' work work' b → Called call pictures work sent words pictures' work' sent' words' r
  opened true g k t =
      record {
        sizes = t.sizes ∙ l.sizes;
        sound = t.sound (length pictures') g (subst (λ n. work_room (sizes_of z) ≤ n) (sym t.long) l.room);
        ran = rw (← l.sizes, ← l.desk pictures, t.desk g.limit g.packed pictures') k;
      }
  opened false g k t = absurd (omega (arith, l.room, t.0))

  pub called : (b : Bool) → Good (sizes_of z) s' (length pictures') →
      Ran (sizes_of z) (read_call (sizes_of z) call (lent_of pictures work sent words)) (desk_of s pictures) sent words (desk_of s' pictures') sent' words' r →
      Storing (sizes_of z) s' work work' b → Promised call pictures work sent words pictures' work' sent' words' r
  called b g k t = rw l.sound (opened b g k t)
