-- The whole promise of a system, and what it owes at each event to keep it.
use Rattle.std.specs.Prelude.{◌≡◌, ℕ, ◌<◌, Bool, true, ◌&&◌, List, [], ◌∷◌, ◌++◌}
use Rattle.model.specs.Basics.{bit}
use Rattle.model.specs.Desk.{Desk, Sizes, Event, Word, after, run, empty, dot, kind}
use Rattle.model.specs.Promise.{Box, in_boxes, with_boxes, Fits, FitsSizes, AllFit, Alike, all_told, goes, SameScreen, SameTold, Once, OnlyChanged}
use Rattle.model.specs.System.{damage, on, quiet, Formed, Cover, Exact}
use Rattle.model.specs.System as system

-- boxes that show the damage of an event: each dot of it is in one box, no other dot is in any, and a screen that is given them has the new dots there
pub record Shows (z : Sizes) (d : Desk) (e : Event) (bs : List Box) : Type 0 where
  pub counts : (i j : ℕ) → in_boxes bs i j ≡ bit (on z i j && damage z d e i j)
  pub right : (f : ℕ → ℕ → ℕ) (i j : ℕ) → i < z.wide → j < z.high → damage z d e i j ≡ true → with_boxes f bs i j ≡ dot (after z d e).0 i j
  pub formed : Formed bs

module _ (System : Type 0) (start : Sizes → System) (happens : Sizes → System → Event → System) (sends : System → List Box) (tells : System → List (ℕ × Word)) where
  -- what the last event of a row sent
  abbrev pub last_sent : Sizes → List Event → Event → List Box
  last_sent z es e = sends (goes System start happens sends tells z (start z) (es ++ e ∷ []))

  -- every dot of the damage is sent exactly once, and no other dot is
  unfoldable pub SendsDamage : Type 0
  SendsDamage =
      (z : Sizes) (es : List Event) (e : Event) (i j : ℕ) → FitsSizes z → AllFit z (es ++ e ∷ []) →
      in_boxes (last_sent z es e) i j ≡ bit (on z i j && damage z (run z (empty z) es) e i j)

  -- every box that is sent has dots, and as many colours as dots
  unfoldable pub SendsFormed : Type 0
  SendsFormed = (z : Sizes) (es : List Event) (e : Event) → FitsSizes z → AllFit z (es ++ e ∷ []) → Formed (last_sent z es e)

  -- nothing at all is sent at an event that is about no window, and at a refused request
  unfoldable pub SendsNothing : Type 0
  SendsNothing =
      (z : Sizes) (es : List Event) (e : Event) → FitsSizes z → AllFit z (es ++ e ∷ []) → quiet z (run z (empty z) es) e ≡ true → last_sent z es e ≡ []

  -- a program is told the same by the system, with any paint of others and any keys typed for others
  unfoldable pub UnseenBy : Type 0
  UnseenBy =
      (z : Sizes) (A : ℕ → Bool) (c : ℕ) (es fs : List Event) → FitsSizes z → AllFit z es → AllFit z fs → A c ≡ true → Alike z A (empty z) es fs →
      all_told System start happens sends tells z (start z) c es ≡ all_told System start happens sends tells z (start z) c fs

  -- THE PROMISE
  pub record Kept : Type 0 where
    pub screen : SameScreen System start happens sends tells
    pub told : SameTold System start happens sends tells
    pub once : Once System start happens sends tells
    pub only : OnlyChanged System start happens sends tells
    pub damage : SendsDamage
    pub formed : SendsFormed
    pub nothing : SendsNothing
    pub unseen : UnseenBy

  -- one event on a system that stands for a desk: it stands for the desk after the event, tells its words and shows its damage
  pub record Step (Stands : Sizes → System → Desk → Type 0) (z : Sizes) (s : System) (d : Desk) (e : Event) : Type 0 where
    pub stands : Stands z (happens z s e) (after z d e).0
    pub tells_it : tells (happens z s e) ≡ (after z d e).1
    pub shows : Shows z d e (sends (happens z s e))

  -- a system that stands for the desk at the start, and at each event that fits takes such a step
  pub record Simulates (Stands : Sizes → System → Desk → Type 0) : Type 0 where
    pub begins : (z : Sizes) → FitsSizes z → Stands z (start z) (empty z)
    pub silent : (z : Sizes) → sends (start z) ≡ []
    pub step : (z : Sizes) (s : System) (d : Desk) (e : Event) → FitsSizes z → Fits z e → z.built (kind e) ≡ true → Stands z s d → Step Stands z s d e

-- the promise follows from single steps, for a system over any type of states: `desk_of` reads the desk out of a state, `sound` tells the states that there are
unfoldable pub Simulation : Type 0 → Type 0
Simulation S =
    (start : Sizes → S) (happens : Sizes → S → Event → S) (sends : S → List Box) (tells : S → List (ℕ × Word)) (desk_of : S → Desk) (sound : Sizes → S → Bool) →
    Simulates S start happens sends tells (λ z s d. (desk_of s ≡ d) × (sound z s ≡ true)) → Kept S start happens sends tells

-- what is told does not depend on others, for any system that tells what the desk tells
unfoldable pub UnseenOf : Type 0 → Type 0
UnseenOf S =
    (start : Sizes → S) (happens : Sizes → S → Event → S) (sends : S → List Box) (tells : S → List (ℕ × Word)) →
    SameTold S start happens sends tells → UnseenBy S start happens sends tells

-- the promise, of the system that cuts its damage by any exact cover
unfoldable pub EveryCover : Type 0
EveryCover = (cover : Cover) → Exact cover → Kept system.System system.start (system.happens cover) system.sends system.tells
