-- The promise, of the system that cuts its damage into boxes by any exact cover.
use Rattle.std.proofs.Common.{◌≡◌, eqb, map, refl, ap, ◌∙◌, subst, lt-ltb}
use Rattle.std.proofs.lemmas.Bool.{and_from}
use Rattle.model.specs.Basics.{pick, bit}
use Rattle.model.specs.Desk.{Desk, Sizes, Event, after, dot}
use Rattle.model.specs.System.{System, Cover, Exact, coloured, on, start, happens, sends, tells}
use Rattle.model.specs.Kept.{Shows, Step, Simulates, Kept, EveryCover}
use Rattle.model.proofs.Boxes.{with_boxes-is, coloured-count, coloured-formed}
use Rattle.model.proofs.Simulate.{simulated}

module _ (cover : Cover) (exact : Exact cover) where
  pub cover-shows : (z : Sizes) (d : Desk) (e : Event) → Shows z d e (map (coloured (dot (after z d e).0)) (cover z d e))
  cover-shows z d e =
      record {
        counts = λ i j. coloured-count (dot (after z d e).0) (cover z d e) i j ∙ exact.counts z d e i j;
        right = λ f i j p q t.
            with_boxes-is (dot (after z d e).0) (cover z d e) f i j ∙
            ap (λ k. pick (eqb k 0) (f i j) (dot (after z d e).0 i j)) (exact.counts z d e i j ∙ ap bit (and_from (on z i j) _ (and_from _ _ (lt-ltb i z.wide p) (lt-ltb j z.high q)) t));
        formed = coloured-formed (dot (after z d e).0) (cover z d e) (exact.solid z d e);
      }

  -- the system stands for its desk
  abbrev Stands : Sizes → System → Desk → Type 0
  Stands z s d = s.desk ≡ d

  step : (z : Sizes) (s : System) (d : Desk) (e : Event) → s.desk ≡ d → Step System start (happens cover) sends tells Stands z s d e
  unfolding happens
  step z s d e r =
      subst (λ b. Step System start (happens cover) sends tells Stands z s b e) r (record { stands = refl; tells_it = refl; shows = cover-shows z s.desk e })

  simulates : Simulates System start (happens cover) sends tells Stands
  unfolding start
  simulates = record { begins = λ z _. refl; silent = λ z. refl; step = λ z s d e _ _ _ r. step z s d e r }

  pub cover-kept : Kept System start (happens cover) sends tells
  cover-kept = simulated System start (happens cover) sends tells Stands simulates

pub every-cover : EveryCover
unfolding EveryCover
every-cover cover exact = cover-kept cover exact
