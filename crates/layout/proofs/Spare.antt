-- What is spare in a work does not matter.
use Rattle.std.proofs.Common.{◌≡◌, ℕ, ◌+◌, ◌*◌, ◌/◌, ◌%◌, ◌<◌, ◌≤◌, true, false, ◌&&◌, eqb, leb, List, [], map, length, is_some, None, sym, ap, ◌∙◌, inl, inr, arith}
use Rattle.std.specs.List.{range_with_len}
use Rattle.std.proofs.lemmas.Bool.{eq-eqb, or_left, and_parts, leb-true}
use Rattle.model.specs.Basics.{pick}
use Rattle.model.specs.Desk.{area}
use Rattle.model.specs.Promise.{FitsSizes}
use Rattle.stack.specs.View.{view, packed}
use Rattle.layout.specs.Sizes.{built}
use Rattle.layout.specs.Budget.{start_refusal}
use Rattle.layout.specs.Head.{byte_of, order_at, clip_at, table_at, word, low, high, place, entry, entry_at, flagged, shaped, each, orderly, handed, clipped, byte_in, bytes_in, sizes_in, table_in, order_in, desk_in, entries_sound, sound_in}
use Rattle.layout.specs.Laws.{Agree, Alike, Spare, SpareWords}
use Rattle.layout.proofs.Each.{each_same}
use Rattle.layout.proofs.Holds.{parts, sound-starts}
use Rattle.layout.proofs.Packs.{map_same}
use Rattle.layout.proofs.Words.{entry-same}

entry-none : (a b c : ℕ) → high a ≡ 0 → entry a b c ≡ None
entry-none a b c e = rw (eq-eqb (high a) 0 e)

flagged-none : (a : ℕ) → high a ≡ 0 → flagged a ≡ true
flagged-none a e = or_left (eqb (high a) 0) _ (eq-eqb (high a) 0 e)

module _ (v w : List ℕ) (a : Agree v w) where
  entries : (n : ℕ) → n < word v 2 → entry_at v table_at n ≡ entry_at w table_at n
  entries n h =
      elim (a.table n h) [
        | inl q ↦ entry-none (word v (table_at + 3 * n)) _ _ q.0 ∙ sym (entry-none (word w (table_at + 3 * n)) _ _ q.1)
        | inr q ↦ entry-same v w table_at n q.0 q.1 q.2
      ]

  flags : (n : ℕ) → n < word v 2 → flagged (word v (table_at + 3 * n)) ≡ flagged (word w (table_at + 3 * n))
  flags n h = elim (a.table n h) [ inl q ↦ flagged-none _ q.0 ∙ sym (flagged-none _ q.1) | inr q ↦ ap flagged q.0 ]

  at : (k : ℕ) → k < 10 → word v k ≡ word w k
  at k h = a.first k h

  sizes : sizes_in v ≡ sizes_in w
  unfolding sizes_in
  sizes = λ i. record {
    wide = at 0 (omega arith) i;
    high = at 1 (omega arith) i;
    windows = at 2 (omega arith) i;
    programs = at 3 (omega arith) i;
    side = at 4 (omega arith) i;
    dots = at 5 (omega arith) i;
    built = built;
  }

  table : table_in v ≡ table_in w
  table =
      ap (packed 0) (map_same (entry_at v table_at) (entry_at w table_at) (word v 2) None entries)
      ∙ ap (λ n. packed 0 (map (entry_at w table_at) (range_with_len 0 n))) (at 2 (omega arith))

  order : order_in v ≡ order_in w
  order = map_same (byte_in v order_at) (byte_in w order_at) (word v 9) 0 a.order ∙ ap (bytes_in w order_at) (at 9 (omega arith))

  clip : bytes_in v clip_at (low (word v 8)) ≡ bytes_in w clip_at (low (word w 8))
  clip = map_same (byte_in v clip_at) (byte_in w clip_at) (low (word v 8)) 0 a.clip ∙ ap (λ x. bytes_in w clip_at (low x)) (at 8 (omega arith))

  desks : (p : List ℕ) → desk_in v p ≡ desk_in w p
  unfolding desk_in
  desks p = λ i. record {
    windows = map (view p) (table i);
    order = order i;
    px = place (low (at 6 (omega arith) i));
    py = place (high (at 6 (omega arith) i));
    keys = low (at 7 (omega arith) i);
    held = high (at 7 (omega arith) i);
    clip_of = high (at 8 (omega arith) i);
    clip = clip i;
  }

  entries-same : entries_sound v ≡ entries_sound w
  entries-same =
      each_same (λ n. flagged (word v (table_at + 3 * n)) && shaped (sizes_in v) (entry_at v table_at n)) (λ n. flagged (word w (table_at + 3 * n)) && shaped (sizes_in w) (entry_at w table_at n)) (word v 2)
      (λ n h. λ i. flags n h i && shaped (sizes i) (entries n h i))
      ∙ ap (each (λ n. flagged (word w (table_at + 3 * n)) && shaped (sizes_in w) (entry_at w table_at n))) (at 2 (omega arith))

  sound : (size : ℕ) → length v ≡ length w → sound_in v size ≡ sound_in w size
  unfolding sound_in
  sound size l = λ i.
      pick (is_some (start_refusal (sizes i) size (l i))) false true &&
      (((leb (at 9 (omega arith) i) 255 && entries-same i) && (orderly (table i) (order i) && leb (area (map (view []) (table i))) (at 5 (omega arith) i))) &&
      (clipped (at 8 (omega arith) i) && (handed (table i) (low (at 7 (omega arith) i)) && handed (table i) (high (at 7 (omega arith) i)))))

alike : (v w : List ℕ) → Agree v w → Alike v w
alike v w a = record { sizes = sizes v w a; desk = desks v w a; sound = sound v w a }

pub spare : Spare
unfolding Spare
spare = alike

pub spare-words : SpareWords
unfolding SpareWords FitsSizes sizes_in
spare-words v w size e l same =
    let p = parts v size e in
    let c = and_parts (leb (low (word v 8)) 4096) (leb (high (word v 8)) 256) p.clip in
    let few : word v 2 ≤ 255 = (sound-starts v size e).fits.4 in
    let len : low (word v 8) ≤ 4096 = leb-true (low (word v 8)) 4096 c.0 in
    let count : word v 9 ≤ 255 = p.count in
    alike v w (record {
      first = λ k h. same k (omega arith);
      order = λ i h. ap (λ x. byte_of x (i % 4)) (same (order_at + i / 4) (omega arith));
      clip = λ i h. ap (λ x. byte_of x (i % 4)) (same (clip_at + i / 4) (omega arith));
      table = λ n h. inr (same (table_at + 3 * n) (omega arith), same (table_at + 3 * n + 1) (omega arith), same (table_at + 3 * n + 2) (omega arith));
    })
