-- A work that passes the tests holds a sound desk, and a state that is read from it is good.
use Rattle.std.proofs.Common.{◌≡◌, ℕ, zero, suc, ◌+◌, ◌-◌, ◌*◌, ◌≤◌, Bool, true, false, ◌&&◌, eqb, ltb, leb, List, [], ◌∷◌, map, length, get_or, is_some, Some, None, Option, sym, refl, ap, ◌∙◌, subst, inl, inr, arith}
use Rattle.std.specs.List.{range_with_len}
use Rattle.std.proofs.lemmas.List.{length-map, get_or-map, get_or_past}
use Rattle.std.proofs.lemmas.List.FromFn.{length-map-range_with_len, get_or-map-range_with_len}
use Rattle.std.proofs.lemmas.Bool.{leb-true, ltb-true, eqb-true, cases_lt, both_ways, and_parts, and_from, and_left, and_right, or_cases}
use Rattle.model.specs.Basics.{bit}
use Rattle.model.specs.Desk as desk
use Rattle.model.specs.Desk.{nothing, window, area}
use Rattle.model.specs.Promise.{times, FitsSizes}
use Rattle.model.specs.Sound.{Sound, ShapedIf}
use Rattle.model.proofs.Order.{one-other}
use Rattle.stack.specs.declared.state.Window.{Window}
use Rattle.stack.specs.View.{view, begun, packed, size_of}
use Rattle.stack.specs.Packed.{Packed}
use Rattle.stack.proofs.Packed.{packed-is, ending-area}
use Rattle.layout.specs.declared.sizes.Sizes.{Sizes}
use Rattle.layout.specs.declared.state.State.{State}
use Rattle.layout.specs.State.{desk_of}
use Rattle.layout.specs.Budget.{work_room}
use Rattle.layout.specs.Head.{table_at, clip_at, word, low, high, place, entry_at, flagged, shaped, each, all_of, orderly, handed, sizes_in, table_in, order_in, desk_in, entries_sound, stack_sound, clip_sound, hands_sound, room_sound, sound_in}
use Rattle.layout.specs.Loads.{SizedAs, StackedAs, Hands, Clipped, LoadedAs}
use Rattle.layout.proofs.Each.{each_at}
use Rattle.layout.proofs.Checked.{Starts, starts, room-none, room-is}

-- the window n, by its slot
pub view-at : (p : List ℕ) (os : List (Option Window)) (n : ℕ) → get_or (map (view p) os) n nothing ≡ view p (get_or os n None)
view-at p os n =
    elim (cases_lt n (length os)) [
      | inl h ↦ get_or-map (view p) os n None nothing h
      | inr h ↦ get_or_past (map (view p) os) n nothing (simp length-map h) ∙ sym (ap (view p) (get_or_past os n None h))
    ]

pub view-there : (p : List ℕ) (o : Option Window) → (view p o).there ≡ is_some o
view-there p None = refl
view-there p (Some w) = refl

pub length-packed : (at : ℕ) (os : List (Option Window)) → length (packed at os) ≡ length os
length-packed at [] = refl
length-packed at (o ∷ os) = ap suc (length-packed (at + size_of o) os)

-- numbers that are all low
times_none : (w n : ℕ) (o : List ℕ) → all_of (λ m. ltb m w) o ≡ true → w ≤ n → times n o ≡ 0
unfolding times
times_none w n [] e h = refl
times_none w n (m ∷ o) e h =
    let q = and_parts (ltb m w) (all_of (λ k. ltb k w) o) e in
    omega (arith, one-other n m (λ z. omega (arith, ltb-true m w q.0)), times_none w n o q.1 h)

pub once_by : (os : List (Option Window)) (o : List ℕ) → orderly os o ≡ true → (n : ℕ) → times n o ≡ bit (is_some (get_or os n None))
once_by os o e n =
    let f : ℕ → Bool = λ k. eqb (times k o) (bit (is_some (get_or os k None))) in
    let q = and_parts (each f (length os)) (all_of (λ m. ltb m (length os)) o) e in
    elim (cases_lt n (length os)) [
      | inl h ↦ eqb-true (times n o) (bit (is_some (get_or os n None))) (each_at f (length os) q.0 n h)
      | inr h ↦ times_none (length os) n o q.1 h ∙ sym (ap (λ s. bit (is_some s)) (get_or_past os n None h))
    ]

-- where pictures begin does not matter to a window's shape
shaped-begun : (z : desk.Sizes) (at : ℕ) (o : Option Window) → shaped z (begun at o) ≡ shaped z o
shaped-begun z at None = refl
shaped-begun z at (Some w) = refl

pub shaped-packed : (z : desk.Sizes) (at : ℕ) (os : List (Option Window)) (n : ℕ) → shaped z (get_or (packed at os) n None) ≡ shaped z (get_or os n None)
shaped-packed z at [] n = refl
shaped-packed z at (o ∷ os) zero = shaped-begun z at o
shaped-packed z at (o ∷ os) (suc n) = shaped-packed z (at + size_of o) os n

pub shaped-view : (z : desk.Sizes) (p : List ℕ) (o : Option Window) → shaped z o ≡ true → ShapedIf z (view p o)
shaped-view z p None e t = absurd (both_ways true (sym t) refl)
shaped-view z p (Some w) e t =
    let a = and_parts (ltb w.owner z.programs) ((leb 1 w.wide && leb w.wide z.side) && (leb 1 w.high && leb w.high z.side)) e in
    let b = and_parts (leb 1 w.wide && leb w.wide z.side) (leb 1 w.high && leb w.high z.side) a.1 in
    let c = and_parts (leb 1 w.wide) (leb w.wide z.side) b.0 in
    let d = and_parts (leb 1 w.high) (leb w.high z.side) b.1 in
    record {
      owner = ltb-true w.owner z.programs a.0;
      wide_least = leb-true 1 w.wide c.0;
      wide_most = leb-true w.wide z.side c.1;
      high_least = leb-true 1 w.high d.0;
      high_most = leb-true w.high z.side d.1;
    }

pub held_by : (p : List ℕ) (os : List (Option Window)) (k n : ℕ) → handed os k ≡ true → k ≡ suc n → (get_or (map (view p) os) n nothing).there ≡ true
held_by p os k n e q =
    ap (λ (w : desk.Window). w.there) (view-at p os n) ∙ view-there p (get_or os n None) ∙
    elim (or_cases (eqb k 0) (is_some (get_or os (k - 1) None)) e) [
      | inl z ↦ let h = eqb-true k 0 z in absurd (omega arith)
      | inr z ↦ let m : k - 1 ≡ n = omega arith in sym (ap (λ i. is_some (get_or os i None)) m) ∙ z
    ]

pub area-any : (p q : List ℕ) (os : List (Option Window)) → area (map (view p) os) ≡ area (map (view q) os)
area-any p q os = omega (arith, ending-area p 0 os, ending-area q 0 os)

pub record Parts (work : List ℕ) (size : ℕ) : Type 0 where
  pub room : room_sound work size ≡ true
  pub count : word work 9 ≤ 255
  pub entries : entries_sound work ≡ true
  pub order : orderly (table_in work) (order_in work) ≡ true
  pub few : area (map (view []) (table_in work)) ≤ word work 5
  pub clip : clip_sound work ≡ true
  pub keys : handed (table_in work) (low (word work 7)) ≡ true
  pub held : handed (table_in work) (high (word work 7)) ≡ true

pub parts : (work : List ℕ) (size : ℕ) → sound_in work size ≡ true → Parts work size
unfolding sound_in
parts work size e =
    let a = and_parts (room_sound work size) (stack_sound work && (clip_sound work && hands_sound work)) e in
    let b = and_parts (stack_sound work) (clip_sound work && hands_sound work) a.1 in
    let c = and_parts (clip_sound work) (hands_sound work) b.1 in
    let d = and_parts (leb (word work 9) 255 && entries_sound work) (orderly (table_in work) (order_in work) && leb (area (map (view []) (table_in work))) (word work 5)) b.0 in
    let f = and_parts (leb (word work 9) 255) (entries_sound work) d.0 in
    let g = and_parts (orderly (table_in work) (order_in work)) (leb (area (map (view []) (table_in work))) (word work 5)) d.1 in
    let h = and_parts (handed (table_in work) (low (word work 7))) (handed (table_in work) (high (word work 7))) c.1 in
    record {
      room = a.0;
      count = leb-true (word work 9) 255 f.0;
      entries = f.1;
      order = g.0;
      few = leb-true (area (map (view []) (table_in work))) (word work 5) g.1;
      clip = c.0;
      keys = h.0;
      held = h.1;
    }

-- the sizes of a sound work are in their ranges, and the lent memory has room for them
pub sound-starts : (work : List ℕ) (size : ℕ) → sound_in work size ≡ true → Starts (sizes_in work) size (length work)
sound-starts work size e = starts (sizes_in work) size (length work) (room-none work size (parts work size e).room)

-- THE LAW: what passes the tests is sound
pub sound-holds : (work : List ℕ) (size : ℕ) → sound_in work size ≡ true → (p : List ℕ) → Sound (sizes_in work) (desk_in work p)
unfolding sizes_in desk_in window
sound-holds work size e p =
    let k = parts work size e in
    let os = table_in work in
    let es = map (entry_at work table_at) (range_with_len 0 (word work 2)) in
    let f : ℕ → Bool = λ n. flagged (word work (table_at + 3 * n)) && shaped (sizes_in work) (entry_at work table_at n) in
    record {
      len = length-map os (view p) ∙ length-packed 0 es ∙ length-map-range_with_len (entry_at work table_at) 0 (word work 2);
      keys_there = λ n q. held_by p os (low (word work 7)) n k.keys q;
      held_there = λ n q. held_by p os (high (word work 7)) n k.held q;
      once = λ n. once_by os (order_in work) k.order n ∙ ap bit (sym (ap (λ (w : desk.Window). w.there) (view-at p os n) ∙ view-there p (get_or os n None)));
      shaped = λ n. subst (λ (w : desk.Window). ShapedIf (sizes_in work) w) (sym (view-at p os n)) (shaped-view (sizes_in work) p (get_or os n None)
          (shaped-packed (sizes_in work) 0 es n ∙
          elim (cases_lt n (word work 2)) [
            | inl h ↦ ap (shaped (sizes_in work)) (get_or-map-range_with_len (entry_at work table_at) 0 (word work 2) n n None h (omega arith)) ∙
                (and_parts (flagged (word work (table_at + 3 * n))) (shaped (sizes_in work) (entry_at work table_at n)) (each_at f (word work 2) k.entries n h)).1
            | inr h ↦ ap (shaped (sizes_in work)) (get_or_past es n None (rw (length-map-range_with_len (entry_at work table_at) 0 (word work 2)) h))
          ]));
      few = omega (arith, area-any p [] os, k.few);
    }

-- the tests fail where a part does
pub no_room : (work : List ℕ) (size : ℕ) → room_sound work size ≡ false → sound_in work size ≡ false
unfolding sound_in
no_room work size e = and_left (room_sound work size) _ e

pub no_stack : (work : List ℕ) (size : ℕ) → stack_sound work ≡ false → sound_in work size ≡ false
unfolding sound_in
no_stack work size e = and_right (room_sound work size) _ (and_left (stack_sound work) _ e)

pub no-clip : (work : List ℕ) (size : ℕ) → clip_sound work ≡ false → sound_in work size ≡ false
unfolding sound_in
no-clip work size e = and_right (room_sound work size) _ (and_right (stack_sound work) _ (and_left (clip_sound work) _ e))

pub no-hands : (work : List ℕ) (size : ℕ) → hands_sound work ≡ false → sound_in work size ≡ false
unfolding sound_in
no-hands work size e = and_right (room_sound work size) _ (and_right (stack_sound work) _ (and_right (clip_sound work) _ e))

-- the parts of a load give the whole
pub loaded : (work : List ℕ) (size : ℕ) (z : Sizes) (s : State) → SizedAs work size z → StackedAs work s.stack → Clipped work clip_at (word work 8) s.clip →
    Hands (table_in work) (word work 7) s.keys s.held → s.x ≡ place (low (word work 6)) → s.y ≡ place (high (word work 6)) → LoadedAs work size z s
unfolding sizes_in desk_in sound_in
loaded work size z s a b c d x y =
    record {
      sound = ok;
      sizes = a.sizes;
      desk = same;
      good = record {
        sizes = subst FitsSizes (sym a.sizes) (starts (sizes_in work) size (length work) a.room).fits;
        limit = b.limit ∙ sym (ap (λ (v : desk.Sizes). v.windows) a.sizes);
        packed = subst (Packed 0) (sym b.slots) (packed-is 0 (map (entry_at work table_at) (range_with_len 0 (word work 2))));
        room = subst (λ (v : desk.Sizes). v.dots ≤ size) (sym a.sizes) (starts (sizes_in work) size (length work) a.room).dots;
        sound = λ p. subst (λ (v : desk.Sizes). Sound v (desk_of s p)) (sym a.sizes) (subst (Sound (sizes_in work)) (sym (same p)) (sound-holds work size ok p));
      };
      room = subst (λ (v : desk.Sizes). work_room v ≤ length work) (sym a.sizes) (starts (sizes_in work) size (length work) a.room).room;
    }
  where
    ok : sound_in work size ≡ true
    ok = and_from (room_sound work size) _ (room-is work size a.room) (and_from (stack_sound work) _ b.sound (and_from (clip_sound work) (hands_sound work) c.sound d.sound))

    same : (p : List ℕ) → desk_of s p ≡ desk_in work p
    same p = λ i. record {
      windows = map (view p) (b.slots i);
      order = b.order i;
      px = x i;
      py = y i;
      keys = d.keys_is i;
      held = d.held_is i;
      clip_of = c.owner_is i;
      clip = c.bytes_are i;
    }
