-- The promise from single steps: a system that stands for the desk, and keeps standing for it at each event, keeps the promise.
use Rattle.std.proofs.Common.{◌≡◌, ℕ, ◌<◌, ◌≤◌, false, ◌&&◌, ltb, ◌⊎◌, List, [], ◌∷◌, ◌++◌, sym, refl, ap, ◌∙◌, subst, inl, inr, arith, le-ltb}
use Rattle.std.proofs.lemmas.Bool.{and_left, and_right, cases_Bool}
use Rattle.model.specs.Basics.{bit}
use Rattle.model.specs.Desk.{Desk, Sizes, Event, Word, after, run, told, words_to, empty, dot, dot_of, front}
use Rattle.model.specs.Promise.{Box, with_boxes, screen, all_told, goes, in_boxes, SameScreen, SameTold, Once, OnlyChanged, AllFit, FitsSizes}
use Rattle.model.specs.System.{damage, on}
use Rattle.model.specs.Kept.{Shows, Step, Simulates, Simulation, Kept, SendsDamage, SendsFormed, SendsNothing, UnseenBy, UnseenOf, last_sent}
use Rattle.model.proofs.Picks.{bit-small, bit-some}
use Rattle.model.proofs.Damage.{outside, damage-touched, quiet-undamaged}
use Rattle.model.proofs.Boxes.{unwritten, counts, none-formed}
use Rattle.model.proofs.Unseen.{unseen_of}

dot-empty : (z : Sizes) (i j : ℕ) → dot (empty z) i j ≡ 0
unfolding dot dot_of empty front
dot-empty z i j = refl

-- a screen with the desk's dots has the new desk's after the boxes of an event
screen-step : (z : Sizes) (d : Desk) (e : Event) (bs : List Box) (f : ℕ → ℕ → ℕ) (i j : ℕ) → Shows z d e bs → i < z.wide → j < z.high → f i j ≡ dot d i j → with_boxes f bs i j ≡ dot (after z d e).0 i j
screen-step z d e bs f i j w p q h =
    elim (cases_Bool (damage z d e i j)) [
      | inl t ↦ w.right f i j p q t
      | inr t ↦ unwritten bs f i j (w.counts i j ∙ ap bit (and_right (on z i j) (damage z d e i j) t)) ∙ h ∙ sym (outside z d e i j t)
    ]

-- no box off the screen, and no dot twice
abbrev Apart : Sizes → List Box → Type 0
Apart z bs = (i j : ℕ) → (in_boxes bs i j ≤ 1) × ((z.wide ≤ i) ⊎ (z.high ≤ j) → in_boxes bs i j ≡ 0)

off : (z : Sizes) (i j : ℕ) → (z.wide ≤ i) ⊎ (z.high ≤ j) → on z i j ≡ false
off z i j o = elim o [ inl p ↦ and_left (ltb i z.wide) (ltb j z.high) (le-ltb i z.wide p) | inr p ↦ and_right (ltb i z.wide) (ltb j z.high) (le-ltb j z.high p) ]

shows-apart : (z : Sizes) (d : Desk) (e : Event) (bs : List Box) → Shows z d e bs → Apart z bs
shows-apart z d e bs w i j = (
  let n = w.counts i j in let m = bit-small (on z i j && damage z d e i j) in omega arith,
  λ o. w.counts i j ∙ ap bit (and_left (on z i j) (damage z d e i j) (off z i j o)),
)

module _ (S : Type 0) (start : Sizes → S) (happens : Sizes → S → Event → S) (sends : S → List Box) (tells : S → List (ℕ × Word)) where
  module _ (Stands : Sizes → S → Desk → Type 0) (sim : Simulates S start happens sends tells Stands) where
    screen-from : (z : Sizes) → FitsSizes z → (es : List Event) → AllFit z es → (s : S) (d : Desk) → Stands z s d → (f : ℕ → ℕ → ℕ) (i j : ℕ) → i < z.wide → j < z.high →
        ((a b : ℕ) → a < z.wide → b < z.high → f a b ≡ dot d a b) → screen S start happens sends tells z s f es i j ≡ dot (run z d es) i j
    unfolding screen run AllFit
    screen-from z fz [] fits s d r f i j p q h = h i j p q
    screen-from z fz (e ∷ es) fits s d r f i j p q h =
        let t = sim.step z s d e fz fits.0 fits.1 r in
        screen-from z fz es fits.2 (happens z s e) (after z d e).0 t.stands (with_boxes f (sends (happens z s e))) i j p q
        (λ a b pa qb. screen-step z d e (sends (happens z s e)) f a b t.shows pa qb (h a b pa qb))

    same-screen : SameScreen S start happens sends tells
    unfolding SameScreen
    same-screen z es i j fz fits p q = screen-from z fz es fits (start z) (empty z) (sim.begins z fz) (λ a b. 0) i j p q (λ a b _ _. sym (dot-empty z a b))

    told-from : (z : Sizes) → FitsSizes z → (es : List Event) → AllFit z es → (s : S) (d : Desk) → Stands z s d → (c : ℕ) → all_told S start happens sends tells z s c es ≡ told z d c es
    unfolding all_told told AllFit
    told-from z fz [] fits s d r c = refl
    told-from z fz (e ∷ es) fits s d r c =
        let t = sim.step z s d e fz fits.0 fits.1 r in
        ap (λ ms. words_to c ms ++ all_told S start happens sends tells z (happens z s e) c es) t.tells_it ∙
        ap (λ ws. words_to c (after z d e).1 ++ ws) (told-from z fz es fits.2 (happens z s e) (after z d e).0 t.stands c)

    same-told : SameTold S start happens sends tells
    unfolding SameTold
    same-told z es c fz fits = told-from z fz es fits (start z) (empty z) (sim.begins z fz) c

    goes-apart : (z : Sizes) → FitsSizes z → (es : List Event) → AllFit z es → (s : S) (d : Desk) → Stands z s d → Apart z (sends s) → Apart z (sends (goes S start happens sends tells z s es))
    unfolding goes AllFit
    goes-apart z fz [] fits s d r g = g
    goes-apart z fz (e ∷ es) fits s d r g =
        let t = sim.step z s d e fz fits.0 fits.1 r in
        goes-apart z fz es fits.2 (happens z s e) (after z d e).0 t.stands (shows-apart z d e _ t.shows)

    start-apart : (z : Sizes) → Apart z (sends (start z))
    unfolding in_boxes
    start-apart z i j = (rw (sim.silent z) (omega arith), λ _. rw (sim.silent z))

    once : Once S start happens sends tells
    unfolding Once
    once z es i j fz fits = goes-apart z fz es fits (start z) (empty z) (sim.begins z fz) (start-apart z) i j

    -- the last event of a row, with the system and the desk before it
    record Last (z : Sizes) (s : S) (d : Desk) (es : List Event) (e : Event) : Type 0 where
      before : S
      end : goes S start happens sends tells z s (es ++ e ∷ []) ≡ happens z before e
      step : Step S start happens sends tells Stands z before (run z d es) e

    last : (z : Sizes) → FitsSizes z → (es : List Event) (e : Event) → AllFit z (es ++ e ∷ []) → (s : S) (d : Desk) → Stands z s d → Last z s d es e
    unfolding goes AllFit run
    last z fz [] e fits s d r = record { before = s; end = refl; step = sim.step z s d e fz fits.0 fits.1 r }
    last z fz (a ∷ es) e fits s d r =
        let t = sim.step z s d a fz fits.0 fits.1 r in
        let l = last z fz es e fits.2 (happens z s a) (after z d a).0 t.stands in
        record { before = l.before; end = l.end; step = l.step }

    -- what it sent shows its damage
    last-shows : (z : Sizes) → FitsSizes z → (es : List Event) (e : Event) → AllFit z (es ++ e ∷ []) → Shows z (run z (empty z) es) e (last_sent S start happens sends tells z es e)
    last-shows z fz es e fits =
        let l = last z fz es e fits (start z) (empty z) (sim.begins z fz) in
        subst (λ (u : S). Shows z (run z (empty z) es) e (sends u)) (sym l.end) l.step.shows

    only-changed : OnlyChanged S start happens sends tells
    unfolding OnlyChanged
    only-changed z es e k i j b fz fits g n t p q =
        let w = last-shows z fz es e fits in
        damage-touched z (run z (empty z) es) e i j
        (bit-some (on z i j) (damage z (run z (empty z) es) e i j) (subst (λ (m : ℕ). 0 < m) (w.counts i j) (counts (last_sent S start happens sends tells z es e) k b b i j n g t)))

    sends-damage : SendsDamage S start happens sends tells
    unfolding SendsDamage
    sends-damage z es e i j fz fits = (last-shows z fz es e fits).counts i j

    sends-formed : SendsFormed S start happens sends tells
    unfolding SendsFormed
    sends-formed z es e fz fits = (last-shows z fz es e fits).formed

    sends-nothing : SendsNothing S start happens sends tells
    unfolding SendsNothing
    sends-nothing z es e fz fits t =
        let w = last-shows z fz es e fits in
        none-formed _ w.formed (λ i j. w.counts i j ∙ ap bit (and_right (on z i j) (damage z (run z (empty z) es) e i j) (quiet-undamaged z (run z (empty z) es) e i j t)))

    unseen-by : UnseenBy S start happens sends tells
    unfolding UnseenOf
    unseen-by = unseen_of S start happens sends tells same-told

    pub simulated : Kept S start happens sends tells
    simulated =
        record {
          screen = same-screen;
          told = same-told;
          once = once;
          only = only-changed;
          damage = sends-damage;
          formed = sends-formed;
          nothing = sends-nothing;
          unseen = unseen-by;
        }

pub simulation : (S : Type 0) → Simulation S
unfolding Simulation
simulation S start happens sends tells desk_of sound sim = simulated S start happens sends tells _ sim
