-- Events: what is written is read, what is read was written so, and a fault is at the first byte that no event has.
use Rattle.std.proofs.Common.{◌≡◌, ℕ, zero, suc, ◌+◌, ◌-◌, ◌<◌, ◌≤◌, Bool, true, false, ◌&&◌, ltb, leb, List, [], ◌∷◌, ◌++◌, length, get_or, take, drop, Ok, Err, sym, refl, ap, ◌∙◌, subst, arith}
use Rattle.std.proofs.lemmas.Bool.{ltb-true, lt-ltb, lt-leb, and_parts, and_from, both_ways}
use Rattle.std.proofs.lemmas.List.{append-nil, length-append, drop_at, drop_all, take_rest}
use Rattle.model.specs.Basics.{pick}
use Rattle.model.specs.Desk.{Event, make, close, move, raise, show, fill, put, copy, offer, point, press, key, paste, kind}
use Rattle.protocol.specs.Fields.{all_digits, unsigned, Bytes, Found}
use Rattle.protocol.specs.Formats.{encode, event_format, decode_kind, decode_event, read_event}
use Rattle.protocol.specs.Laws.{Carried, Sent, Begins, ReadsBack, ReadsOnly, FaultsFirst, FaultsWhereNone, Worked}
use Rattle.protocol.proofs.Tests.{ok-not-err, err-not-ok, by-pick, there-ok, by-there, ends-within, goes_on, stands, one_more, answer, size-read}
use Rattle.protocol.proofs.FieldFaults.{heads}
use Rattle.protocol.proofs.Sequences.{Values, apply, bytes, Fits, all_read, AllGot, some-all, AllBad, past, past_one, AllTell, all-tell}

-- an event by its kind and what its fields say
record View (p : ℕ) (e : Event) : Type 0 where
  q : ℕ
  low : q < 13
  of-kind : kind e ≡ q
  values : Values (event_format q).fields
  fits : Fits p (event_format q).fields values
  is : apply (event_format q).fields (event_format q).says values ≡ e
  spelt : encode e ≡ q ∷ bytes (event_format q).fields values

view : (p : ℕ) (e : Event) → Carried p e → View p e
unfolding kind Carried
view p (make c x y w h) f =
    record { q = 0; low = omega arith; of-kind = refl; values = (c, (x, (y, (w, (h, tt))))); fits = (f.0, (f.1, (f.2, (f.3, (f.4, tt))))); is = refl; spelt = refl }
view p (close c n) f =
    record { q = 1; low = omega arith; of-kind = refl; values = (c, (n, tt)); fits = (f.0, (f.1, tt)); is = refl; spelt = refl }
view p (move c n x y) f =
    record { q = 2; low = omega arith; of-kind = refl; values = (c, (n, (x, (y, tt)))); fits = (f.0, (f.1, (f.2, (f.3, tt)))); is = refl; spelt = refl }
view p (raise c n) f =
    record { q = 3; low = omega arith; of-kind = refl; values = (c, (n, tt)); fits = (f.0, (f.1, tt)); is = refl; spelt = refl }
view p (show c n b) f =
    record { q = 4; low = omega arith; of-kind = refl; values = (c, (n, (b, tt))); fits = (f.0, (f.1, (tt, tt))); is = refl; spelt = refl }
view p (fill c n x y w h q) f =
    record { q = 5; low = omega arith; of-kind = refl; values = (c, (n, (x, (y, (w, (h, (q, tt))))))); fits = (f.0, (f.1, (f.2, (f.3, (f.4, (f.5, (f.6, tt))))))); is = refl; spelt = refl }
view p (put c n x y l) f =
    record { q = 6; low = omega arith; of-kind = refl; values = (c, (n, (x, (y, (l, tt))))); fits = (f.0, (f.1, (f.2, (f.3, (f.4, tt))))); is = refl; spelt = refl }
view p (copy c n x y w h a b) f =
    record { q = 7; low = omega arith; of-kind = refl; values = (c, (n, (x, (y, (w, (h, (a, (b, tt)))))))); fits = (f.0, (f.1, (f.2, (f.3, (f.4, (f.5, (f.6, (f.7, tt)))))))); is = refl; spelt = refl }
view p (offer c l) f =
    record { q = 8; low = omega arith; of-kind = refl; values = (c, (l, tt)); fits = (f.0, (f.1, tt)); is = refl; spelt = refl }
view p (point x y) f =
    record { q = 9; low = omega arith; of-kind = refl; values = (x, (y, tt)); fits = (f.0, (f.1, tt)); is = refl; spelt = refl }
view p (press b) f =
    record { q = 10; low = omega arith; of-kind = refl; values = (b, tt); fits = (tt, tt); is = refl; spelt = refl }
view p (key k) f =
    record { q = 11; low = omega arith; of-kind = refl; values = (k, tt); fits = (f, tt); is = refl; spelt = refl }
view p paste f =
    record { q = 12; low = omega arith; of-kind = refl; values = tt; fits = tt; is = refl; spelt = refl }

-- and back
record Back (p q : ℕ) (vs : Values (event_format q).fields) : Type 0 where
  carried : Carried p (apply (event_format q).fields (event_format q).says vs)
  of-kind : kind (apply (event_format q).fields (event_format q).says vs) ≡ q
  spelt : encode (apply (event_format q).fields (event_format q).says vs) ≡ q ∷ bytes (event_format q).fields vs

abbrev Backs : ℕ → ℕ → Type 0
Backs p q = (vs : Values (event_format q).fields) → Fits p (event_format q).fields vs → Back p q vs

back : (p q : ℕ) → q < 13 → Backs p q
unfolding kind Carried
back p zero h vs f = record { carried = (f.0, f.1.0, f.1.1.0, f.1.1.1.0, f.1.1.1.1.0); of-kind = refl; spelt = refl }
back p (suc zero) h vs f = record { carried = (f.0, f.1.0); of-kind = refl; spelt = refl }
back p (suc (suc zero)) h vs f = record { carried = (f.0, f.1.0, f.1.1.0, f.1.1.1.0); of-kind = refl; spelt = refl }
back p (suc (suc (suc zero))) h vs f = record { carried = (f.0, f.1.0); of-kind = refl; spelt = refl }
back p (suc (suc (suc (suc zero)))) h vs f = record { carried = (f.0, f.1.0); of-kind = refl; spelt = refl }
back p (suc (suc (suc (suc (suc zero))))) h vs f = record { carried = (f.0, f.1.0, f.1.1.0, f.1.1.1.0, f.1.1.1.1.0, f.1.1.1.1.1.0, f.1.1.1.1.1.1.0); of-kind = refl; spelt = refl }
back p (suc (suc (suc (suc (suc (suc zero)))))) h vs f = record { carried = (f.0, f.1.0, f.1.1.0, f.1.1.1.0, f.1.1.1.1.0); of-kind = refl; spelt = refl }
back p (suc (suc (suc (suc (suc (suc (suc zero))))))) h vs f = record { carried = (f.0, f.1.0, f.1.1.0, f.1.1.1.0, f.1.1.1.1.0, f.1.1.1.1.1.0, f.1.1.1.1.1.1.0, f.1.1.1.1.1.1.1.0); of-kind = refl; spelt = refl }
back p (suc (suc (suc (suc (suc (suc (suc (suc zero)))))))) h vs f = record { carried = (f.0, f.1.0); of-kind = refl; spelt = refl }
back p (suc (suc (suc (suc (suc (suc (suc (suc (suc zero))))))))) h vs f = record { carried = (f.0, f.1.0); of-kind = refl; spelt = refl }
back p (suc (suc (suc (suc (suc (suc (suc (suc (suc (suc zero)))))))))) h vs f = record { carried = tt; of-kind = refl; spelt = refl }
back p (suc (suc (suc (suc (suc (suc (suc (suc (suc (suc (suc zero))))))))))) h vs f = record { carried = f.0; of-kind = refl; spelt = refl }
back p (suc (suc (suc (suc (suc (suc (suc (suc (suc (suc (suc (suc zero)))))))))))) h vs f = record { carried = tt; of-kind = refl; spelt = refl }
back p (suc (suc (suc (suc (suc (suc (suc (suc (suc (suc (suc (suc (suc q))))))))))))) h vs f = absurd (let z : ⊥ = omega arith in z)

-- the answer where the kind's byte is x
abbrev by_kind : (ℕ → Bool) → ℕ → List ℕ → ℕ → ℕ → Found Event
by_kind built p bs k x = pick (ltb x 13 && built x) (decode_kind x p bs k) (Err k)

event-reads : (built : ℕ → Bool) (p : ℕ) (e : Event) (bs t : List ℕ) (k : ℕ) → Sent built p e → k ≤ length bs → drop k bs ≡ encode e ++ t →
    decode_event built p bs k ≡ Ok (e, k + length (encode e))
event-reads built p e bs t k s h d =
    let v = view p e s.0 in
    let q = v.q in
    let fs = (event_format q).fields in
    let vs = v.values in
    let d1 : drop k bs ≡ q ∷ (bytes fs vs ++ t) = d ∙ ap (λ l. l ++ t) v.spelt in
    let l : k + 1 ≤ length bs = omega (arith, ends-within bs (q ∷ []) (bytes fs vs ++ t) k h d1) in
    let on : (ltb q 13 && built q) ≡ true = and_from (ltb q 13) (built q) (lt-ltb q 13 v.low) (sym (ap built v.of-kind) ∙ s.1) in
    let n : k + (1 + length (bytes fs vs)) ≡ k + length (encode e) = omega (arith, ap length v.spelt) in
    there-ok bs (k + 1) (by_kind built p bs k (get_or bs k 0)) l
    ∙ ap (by_kind built p bs k) (stands bs (bytes fs vs ++ t) q k d1)
    ∙ ap (λ b. pick b (decode_kind q p bs k) (Err k)) on
    ∙ all_read fs (event_format q).says p vs bs t k 1 v.fits l (goes_on bs (q ∷ []) (bytes fs vs ++ t) k 1 refl d1)
    ∙ ap (λ z. Ok (z, k + (1 + length (bytes fs vs)))) v.is
    ∙ ap (λ m. Ok (e, m)) n

-- what is known of an event that was read
pub record Was (built : ℕ → Bool) (p : ℕ) (bs : List ℕ) (k : ℕ) (r : Event × ℕ) : Type 0 where
  pub sent : Sent built p r.0
  pub after : k < r.1
  pub within : r.1 ≤ length bs
  pub spelt : drop k bs ≡ encode r.0 ++ drop r.1 bs

-- some event of a kind that is built
some-event : (built : ℕ → Bool) (p : ℕ) → 0 < p → ((q : ℕ) × (q < 13) × (built q ≡ true)) → (e : Event) × Sent built p e
some-event built p pos c =
    let q = c.0 in
    let s = some-all (event_format q).fields p pos in
    let k = back p q c.1 s.0 s.1 in
    (apply (event_format q).fields (event_format q).says s.0, (k.carried, ap built k.of-kind ∙ c.2))

-- what is known of a fault, but that no event stands there
record FaultAt (built : ℕ → Bool) (p : ℕ) (bs : List ℕ) (k j : ℕ) : Type 0 where
  from : k ≤ j
  within : j ≤ length bs
  before : (e : Event) × Sent built p e × Begins encode bs k (j - k) e
  here : j < length bs → (e : Event) → Sent built p e → Begins encode bs k (suc (j - k)) e → ⊥

-- what a reader's answer tells of a call
abbrev Tells : (ℕ → Bool) → ℕ → List ℕ → ℕ → Found Event → Type 0
Tells built p bs k (Ok r) = Was built p bs k r
Tells built p bs k (Err j) = k ≤ length bs → 0 < p → ((q : ℕ) × (q < 13) × (built q ≡ true)) → FaultAt built p bs k j

event-tells : (built : ℕ → Bool) (p : ℕ) (bs : List ℕ) (k : ℕ) → Bytes bs → Tells built p bs k (decode_event built p bs k)
event-tells built p bs k b =
    let g = get_or bs k 0 in
    by-there bs (k + 1) _ (Tells built p bs k)
    (λ l. by-pick (ltb g 13 && built g) _ _ (Tells built p bs k)
    (λ t. inside l (and_parts (ltb g 13) (built g) t) (decode_kind g p bs k) (all-tell Event (event_format g).fields (event_format g).says p bs k 1 l b))
    (λ t. (λ h pos c. at-kind (some-event built p pos c) l t)))
    (λ l. (λ h pos c. at-end (some-event built p pos c) h l))
  where
    was : (r : Event × ℕ) → k + 1 ≤ length bs → (ltb (get_or bs k 0) 13 ≡ true) × (built (get_or bs k 0) ≡ true) →
        AllGot p (event_format (get_or bs k 0)).fields (event_format (get_or bs k 0)).says bs k 1 r → Was built p bs k r
    was r l on a =
        let g = get_or bs k 0 in
        let fs = (event_format g).fields in
        let k' = back p g (ltb-true g 13 on.0) a.values a.fits in
        let P : Event → Type 0 = λ e. Sent built p e × (drop k bs ≡ encode e ++ drop r.1 bs) in
        let w = subst P a.is (
          (k'.carried, ap built k'.of-kind ∙ on.1),
          one_more bs k (k + 1) (omega arith) refl ∙ ap (λ t. g ∷ t) a.spelt ∙ ap (λ t. t ++ drop r.1 bs) (sym k'.spelt),
        ) in
        record { sent = w.0; after = omega (arith, a.from); within = a.within; spelt = w.1 }

    -- the bytes from k on up to n, with the kind's byte in front
    front : (n : ℕ) → k + 1 ≤ length bs → k + 1 ≤ n → take (n - k) (drop k bs) ≡ get_or bs k 0 ∷ take (n - (k + 1)) (drop (k + 1) bs)
    front n l m = past bs (get_or bs k 0 ∷ []) k (k + 1) n refl (one_more bs k (k + 1) (omega arith) refl) m

    at-end : (e : Event) × Sent built p e → k ≤ length bs → length bs < k + 1 → FaultAt built p bs k (length bs)
    at-end e0 h l =
        record {
          from = h;
          within = omega arith;
          before = (e0.0, e0.1, (encode e0.0, ap (λ t. t ++ encode e0.0) (take_rest bs k ∙ drop_all k bs (omega arith))));
          here = λ m _ _ _. omega arith;
        }

    at-kind : (e : Event) × Sent built p e → k + 1 ≤ length bs → (ltb (get_or bs k 0) 13 && built (get_or bs k 0)) ≡ false → FaultAt built p bs k k
    at-kind e0 l off =
        let z : k - k ≡ 0 = omega arith in
        record {
          from = omega arith;
          within = omega arith;
          before = (e0.0, e0.1, (encode e0.0, ap (λ n. take n (drop k bs) ++ encode e0.0) z));
          here = λ m e s w.
              let v = view p e s.0 in
              let g = get_or bs k 0 in
              let z1 : suc (k - k) ≡ k + 1 - k = omega arith in
              let z2 : k + 1 - (k + 1) ≡ 0 = omega arith in
              let f : take (suc (k - k)) (drop k bs) ≡ g ∷ [] =
              ap (λ n. take n (drop k bs)) z1 ∙ front (k + 1) l (omega arith) ∙ ap (λ n. g ∷ take n (drop (k + 1) bs)) z2 in
              let same : g ≡ v.q = heads g v.q w.0 (bytes (event_format v.q).fields v.values) (sym (ap (λ t. t ++ w.0) f) ∙ w.1 ∙ v.spelt) in
              let on : (ltb g 13 && built g) ≡ true =
              ap (λ q. ltb q 13 && built q) same ∙ and_from (ltb v.q 13) (built v.q) (lt-ltb v.q 13 v.low) (sym (ap built v.of-kind) ∙ s.1) in
              both_ways (ltb g 13 && built g) off on;
        }

    fault : (j : ℕ) → k + 1 ≤ length bs → (ltb (get_or bs k 0) 13 ≡ true) × (built (get_or bs k 0) ≡ true) → AllBad p (event_format (get_or bs k 0)).fields bs k 1 j → FaultAt built p bs k j
    fault j l on d =
        let g = get_or bs k 0 in
        let fs = (event_format g).fields in
        let vs = d.before.0 in
        let t = d.before.1 in
        let k' = back p g (ltb-true g 13 on.0) vs d.before.2 in
        record {
          from = omega (arith, d.from);
          within = d.within;
          before = (
            apply fs (event_format g).says vs,
            (k'.carried, ap built k'.of-kind ∙ on.1),
            (t, ap (λ l. l ++ t) (front j l d.from) ∙ ap (λ l. g ∷ l) d.before.3 ∙ sym k'.spelt),
          );
          here = λ m e s w.
              let v = view p e s.0 in
              let rest = take (suc (j - (k + 1))) (drop (k + 1) bs) in
              let f = past_one bs (g ∷ []) k (k + 1) j refl (one_more bs k (k + 1) (omega arith) refl) d.from in
              let e1 : g ∷ (rest ++ w.0) ≡ v.q ∷ bytes (event_format v.q).fields v.values = sym (ap (λ t. t ++ w.0) f) ∙ w.1 ∙ v.spelt in
              let same : g ≡ v.q = heads g v.q (rest ++ w.0) (bytes (event_format v.q).fields v.values) e1 in
              let P : ℕ → Type 0 = λ q. AllBad p (event_format q).fields bs k 1 j in
              let tails : rest ++ w.0 ≡ bytes (event_format v.q).fields v.values = ap (drop 1) e1 in
              (subst P same d).here m v.values w.0 [] v.fits (tails ∙ sym (append-nil (bytes (event_format v.q).fields v.values)));
        }

    inside : k + 1 ≤ length bs → (ltb (get_or bs k 0) 13 ≡ true) × (built (get_or bs k 0) ≡ true) → (x : Found Event) →
        AllTell p (event_format (get_or bs k 0)).fields (event_format (get_or bs k 0)).says bs k 1 x → Tells built p bs k x
    inside l on (Ok r) a = was r l on a
    inside l on (Err j) a = λ h pos c. fault j l on (a pos)

-- a call that is short enough
short : (built : ℕ → Bool) (p : ℕ) (bs : List ℕ) (k : ℕ) → length bs < 4294967296 → read_event built p bs k ≡ decode_event built p bs k
short built p bs k l = ap (λ b. pick b (Err 4294967295) (decode_event built p bs k)) (lt-leb 4294967296 (length bs) l)

pub read-was : (built : ℕ → Bool) (p : ℕ) (bs : List ℕ) (k : ℕ) → Bytes bs → (r : Event × ℕ) → read_event built p bs k ≡ Ok r → Was built p bs k r
read-was built p bs k b r =
    by-pick (leb 4294967296 (length bs)) _ _ (λ x. x ≡ Ok r → Was built p bs k r) (λ _ q. absurd (err-not-ok r 4294967295 q)) (λ _ q. subst (Tells built p bs k) q (event-tells built p bs k b))

pub reads-back : ReadsBack
unfolding ReadsBack
reads-back built p e before behind s l =
    short built p (before ++ (encode e ++ behind)) (length before) l
    ∙ event-reads built p e (before ++ (encode e ++ behind)) behind (length before) s (omega (arith, length-append before (encode e ++ behind)))
    (drop_at before (encode e ++ behind) (length before) refl)

pub reads_only : ReadsOnly
unfolding ReadsOnly
reads_only built p bs k e to b q =
    let w = read-was built p bs k b (e, to) q in
    (w.sent, w.after, w.within, size-read bs (encode e) k to w.after w.within w.spelt)

pub faults-first : FaultsFirst
unfolding FaultsFirst
faults-first built p bs k j b l h pos c q =
    let d = sym (short built p bs k l) ∙ q in
    let f = subst (Tells built p bs k) d (event-tells built p bs k b) h pos c in
    record {
      from = f.from;
      within = f.within;
      before = f.before;
      here = f.here;
      none = λ e s w. ok-not-err (e, k + length (encode e)) j (sym (event-reads built p e bs w.0 k s h w.1) ∙ d);
    }

pub faults-where-none : FaultsWhereNone
unfolding FaultsWhereNone
faults-where-none built p bs k b none =
    answer (read_event built p bs k) (λ r q. let w = read-was built p bs k b r q in none r.0 w.sent (drop r.1 bs, w.spelt))

pub worked : Worked
unfolding Worked all_digits unsigned
worked = (refl, refl, refl)
