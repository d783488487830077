-- What the tests of a work's head come to.
use Rattle.std.proofs.Common.{◌≡◌, ℕ, ◌+◌, ◌*◌, ◌<◌, ◌≤◌, Bool, not, true, false, ◌&&◌, leb, List, [], map, length, is_some, Some, None, Option, sym, refl, ap, ◌∙◌, subst, inl, inr, arith}
use Rattle.std.specs.Bool.{then_some}
use Rattle.std.specs.List.{range_with_len}
use Rattle.std.proofs.lemmas.Bool.{leb-true, le-leb, lt-leb, cases_Bool, both_ways, and_from, and_left, and_right}
use Rattle.model.specs.Basics.{pick}
use Rattle.model.specs.Desk as desk
use Rattle.model.specs.Desk.{area}
use Rattle.model.specs.Promise.{FitsSizes}
use Rattle.stack.specs.declared.state.Stack.{Stack}
use Rattle.stack.specs.View.{view, slots_of, windows_of, order_of, packed}
use Rattle.layout.specs.declared.sizes.Sizes.{Sizes}
use Rattle.layout.specs.Sizes.{sizes_of, size_refusal}
use Rattle.layout.specs.Ranges.{Ranges}
use Rattle.layout.specs.declared.budget.Lent.{Lent}
use Rattle.layout.specs.declared.budget.Used.{Used}
use Rattle.layout.specs.Budget.{first, short, start_refusal, event_refusal, work_room, sent_room, words_room}
use Rattle.layout.specs.Head.{table_at, word, entry_at, flagged, shaped, each, orderly, sizes_in, table_in, order_in, entries_sound, stack_sound, room_sound}
use Rattle.layout.specs.declared.sizes.Refusal.{Refusal}
use Rattle.layout.specs.Refusals.{numbered_one, numbered}
use Rattle.layout.specs.Loads.{StackedAs, Sized}
use Rattle.layout.proofs.Ranges.{ranges}

-- what a start that is not refused has
first-none : (a b : Option (ℕ × ℕ)) → first a b ≡ None → (a ≡ None) × (b ≡ None)
first-none None b e = (refl, e)
first-none (Some r) b e = absurd (both_ways true (ap is_some e) refl)

short_none : (slice needs has : ℕ) → short slice needs has ≡ None → needs ≤ has
short_none slice needs has e =
    elim (cases_Bool (leb needs has)) [
      | inl t ↦ leb-true needs has t
      | inr f ↦ absurd (both_ways true (sym (ap (λ b. is_some {T = ℕ × ℕ} (pick b None (Some (2, slice)))) f) ∙ ap is_some e) refl)
    ]

pub record Starts (z : desk.Sizes) (pictures work : ℕ) : Type 0 where
  pub fits : FitsSizes z
  pub dots : z.dots ≤ pictures
  pub room : work_room z ≤ work

pub starts : (z : desk.Sizes) (pictures work : ℕ) → start_refusal z pictures work ≡ None → Starts z pictures work
unfolding start_refusal Ranges
starts z pictures work e =
    let a = first-none (size_refusal z) _ e in
    let b = first-none (short 0 z.dots pictures) (short 1 (work_room z) work) a.1 in
    record { fits = (ranges z).0 a.0; dots = short_none 0 z.dots pictures b.0; room = short_none 1 (work_room z) work b.1 }

pub starts-not : (z : desk.Sizes) (pictures work : ℕ) → Starts z pictures work → start_refusal z pictures work ≡ None
unfolding start_refusal Ranges
starts-not z pictures work s = rw ((ranges z).1 s.fits, le-leb z.dots pictures s.dots, le-leb (work_room z) work s.room)

-- what an event that is not refused has: room in sent and words for it too
pub record GoesOn (z : desk.Sizes) (lent : Lent) (used : Used) : Type 0 where
  pub start : Starts z lent.pictures lent.work
  pub sent : used.sent + sent_room z ≤ lent.sent
  pub words : used.words + words_room ≤ lent.words

pub goes_on : (z : desk.Sizes) (lent : Lent) (used : Used) → event_refusal z lent used ≡ None → GoesOn z lent used
unfolding event_refusal
goes_on z lent used e =
    let a = first-none (start_refusal z lent.pictures lent.work) _ e in
    let b = first-none (short 2 (used.sent + sent_room z) lent.sent) (short 3 (used.words + words_room) lent.words) a.1 in
    record {
      start = starts z lent.pictures lent.work a.0;
      sent = short_none 2 (used.sent + sent_room z) lent.sent b.0;
      words = short_none 3 (used.words + words_room) lent.words b.1;
    }

none_is : (o : Option (ℕ × ℕ)) → is_some o ≡ false → o ≡ None
none_is None e = refl
none_is (Some r) e = absurd (both_ways true e refl)

-- a work that is shorter than the head has no room
pub too_short : (work : List ℕ) (size : ℕ) → length work < 2048 → room_sound work size ≡ false
too_short work size h =
    elim (cases_Bool (is_some (start_refusal (sizes_in work) size (length work)))) [
      | inl t ↦ ap (λ b. pick b false true) t
      | inr f ↦ let s = starts (sizes_in work) size (length work) (none_is _ f) in absurd (omega (arith, s.room))
    ]

pub room-not : (work : List ℕ) (size : ℕ) (r : ℕ × ℕ) → start_refusal (sizes_in work) size (length work) ≡ Some r → room_sound work size ≡ false
room-not work size r e = ap (λ o. pick (is_some o) false true) e

pub sized : (work : List ℕ) (size : ℕ) (z : Sizes) (o : Option Refusal) (b : Bool) → sizes_of z ≡ sizes_in work → numbered o ≡ start_refusal (sizes_of z) size (length work) →
    is_some o ≡ not b → Sized work size (then_some b z)
unfolding sizes_in FitsSizes
sized work size z None true h e q =
    let r : start_refusal (sizes_in work) size (length work) ≡ None = rw (← h) (sym e) in
    record { sizes = h; room = r; few = subst (λ y. y.windows ≤ 255) (sym h) (starts (sizes_in work) size (length work) r).fits.4 }
sized work size z (Some r) false h e q = room-not work size (numbered_one r) (ap (λ y. start_refusal y size (length work)) (sym h) ∙ sym e)
sized work size z None false h e q = cc
sized work size z (Some r) true h e q = cc

pub room-is : (work : List ℕ) (size : ℕ) → start_refusal (sizes_in work) size (length work) ≡ None → room_sound work size ≡ true
room-is work size e = ap (λ o. pick (is_some o) false true) e

pub room-none : (work : List ℕ) (size : ℕ) → room_sound work size ≡ true → start_refusal (sizes_in work) size (length work) ≡ None
room-none work size e =
    elim (cases_Bool (is_some (start_refusal (sizes_in work) size (length work)))) [
      | inl t ↦ absurd (both_ways true (sym e ∙ ap (λ b. pick b false true) t) refl)
      | inr f ↦ none_is _ f
    ]

-- the windows of a work, part by part
pub entries_by : (work : List ℕ) (z : Sizes) → sizes_of z ≡ sizes_in work →
    each (λ n. flagged (word work (table_at + 3 * n)) && shaped (sizes_of z) (entry_at work table_at n)) z.windows ≡ entries_sound work
unfolding sizes_in
entries_by work z e = ap (λ (y : desk.Sizes). each (λ n. flagged (word work (table_at + 3 * n)) && shaped y (entry_at work table_at n)) y.windows) e

pub dots-by : (work : List ℕ) (z : Sizes) → sizes_of z ≡ sizes_in work → z.dots ≡ word work 5
unfolding sizes_in
dots-by work z e = ap (λ (y : desk.Sizes). y.dots) e

pub windows-by : (work : List ℕ) (z : Sizes) → sizes_of z ≡ sizes_in work → z.windows ≡ word work 2
unfolding sizes_in
windows-by work z e = ap (λ (y : desk.Sizes). y.windows) e

-- the table that a stack was read from
pub table-by : (work : List ℕ) (z : Sizes) (s : Stack) → sizes_of z ≡ sizes_in work → slots_of s ≡ packed 0 (map (entry_at work table_at) (range_with_len 0 z.windows)) →
    slots_of s ≡ table_in work
table-by work z s e q = q ∙ ap (λ n. packed 0 (map (entry_at work table_at) (range_with_len 0 n))) (windows-by work z e)

pub not-entries : (work : List ℕ) → entries_sound work ≡ false → stack_sound work ≡ false
not-entries work e = and_left _ _ (and_right (leb (word work 9) 255) (entries_sound work) e)

module _ (work : List ℕ) (s : Stack) (es : slots_of s ≡ table_in work) (eo : order_of s ≡ order_in work) where
  pub not-order : orderly (slots_of s) (order_of s) ≡ false → stack_sound work ≡ false
  not-order e =
      and_right (leb (word work 9) 255 && entries_sound work) _ (and_left (orderly (table_in work) (order_in work)) _ (sym (λ i. orderly (es i) (eo i)) ∙ e))

  pub not_area : (a : ℕ) → ((p : List ℕ) → a ≡ area (windows_of s p)) → word work 5 < a → stack_sound work ≡ false
  not_area a q h =
      let m : a ≡ area (map (view []) (table_in work)) = q [] ∙ ap (λ os. area (map (view []) os)) es in
      and_right (leb (word work 9) 255 && entries_sound work) _ (and_right (orderly (table_in work) (order_in work)) _ (lt-leb (area (map (view []) (table_in work))) (word work 5) (omega arith)))

  pub stacked : (a : ℕ) → ((p : List ℕ) → a ≡ area (windows_of s p)) → a ≤ word work 5 → word work 9 ≤ 255 → entries_sound work ≡ true → orderly (slots_of s) (order_of s) ≡ true → s.limit ≡ word work 2 → StackedAs work s
  stacked a q h c e o l =
      let m : a ≡ area (map (view []) (table_in work)) = q [] ∙ ap (λ os. area (map (view []) os)) es in
      record {
        sound = and_from _ _ (and_from _ _ (le-leb (word work 9) 255 c) e) (and_from _ _ (sym (λ i. orderly (es i) (eo i)) ∙ o) (le-leb (area (map (view []) (table_in work))) (word work 5) (omega arith)));
        slots = es;
        order = eo;
        limit = l;
      }
