-- Words: what is written is read, what is read was written so, and a fault is at the first byte that no word has.
use Rattle.std.proofs.Common.{◌≡◌, ℕ, zero, suc, ◌+◌, ◌-◌, ◌<◌, ◌≤◌, ltb, leb, List, [], ◌∷◌, ◌++◌, length, get_or, take, drop, Ok, Err, sym, refl, ap, ◌∙◌, subst, inl, inr, arith}
use Rattle.std.proofs.lemmas.Bool.{ltb-true, ltb-false, lt-ltb, lt-leb, cases_lt}
use Rattle.std.proofs.lemmas.List.{append-nil, length-append, drop_at, drop_all, take_rest}
use Rattle.model.specs.Basics.{pick}
use Rattle.model.specs.Desk.{Word, no, done, made, at, pressed, typed, pasted}
use Rattle.protocol.specs.Fields.{Bytes, Found}
use Rattle.protocol.specs.Formats.{encode_word, word_format, decode_word_kind, decode_word, read_told, told}
use Rattle.protocol.specs.Laws.{CarriedWord, spell_told, Told, Begins, ReadsWordBack, ReadsWordsOnly, WordFaultsFirst, WordFaultsWhereNone}
use Rattle.protocol.proofs.Tests.{ok-not-err, err-not-ok, by-pick, there-ok, by-there, ends-within, goes_on, stands, one_more, answer, size-read}
use Rattle.protocol.proofs.FieldFaults.{heads}
use Rattle.protocol.proofs.Sequences.{Values, apply, bytes, Fits, all_read, AllGot, AllBad, past, past_one, AllTell, all-tell}

-- a word by its kind and what its fields say
record View (c : ℕ) (w : Word) : Type 0 where
  q : ℕ
  low : q < 7
  values : Values (word_format q).fields
  fits : Fits 256 (word_format q).fields values
  is : apply (word_format q).fields (word_format q).says values ≡ w
  spelt : encode_word c w ≡ c ∷ q ∷ bytes (word_format q).fields values

view : (c : ℕ) (w : Word) → CarriedWord w → View c w
unfolding CarriedWord
view c no f = record { q = 0; low = omega arith; values = (tt, tt); fits = (tt, tt); is = refl; spelt = refl }
view c done f = record { q = 1; low = omega arith; values = (tt, tt); fits = (tt, tt); is = refl; spelt = refl }
view c (made n) f = record { q = 2; low = omega arith; values = (n, tt); fits = (f, tt); is = refl; spelt = refl }
view c (at n x y) f = record { q = 3; low = omega arith; values = (n, (x, (y, tt))); fits = (f.0, (f.1, (f.2, tt))); is = refl; spelt = refl }
view c (pressed n b) f = record { q = 4; low = omega arith; values = (n, (b, tt)); fits = (f, (tt, tt)); is = refl; spelt = refl }
view c (typed n k) f = record { q = 5; low = omega arith; values = (n, (k, tt)); fits = (f.0, (f.1, tt)); is = refl; spelt = refl }
view c (pasted n l) f = record { q = 6; low = omega arith; values = (n, (l, tt)); fits = (f.0, (f.1, tt)); is = refl; spelt = refl }

-- and back
record Back (q : ℕ) (vs : Values (word_format q).fields) : Type 0 where
  carried : CarriedWord (apply (word_format q).fields (word_format q).says vs)
  spelt : (c : ℕ) → encode_word c (apply (word_format q).fields (word_format q).says vs) ≡ c ∷ q ∷ bytes (word_format q).fields vs

abbrev Backs : ℕ → Type 0
Backs q = (vs : Values (word_format q).fields) → Fits 256 (word_format q).fields vs → Back q vs

back : (q : ℕ) → q < 7 → Backs q
unfolding CarriedWord
back zero h vs f = record { carried = tt; spelt = λ c. refl }
back (suc zero) h vs f = record { carried = tt; spelt = λ c. refl }
back (suc (suc zero)) h vs f = record { carried = f.0; spelt = λ c. refl }
back (suc (suc (suc zero))) h vs f = record { carried = (f.0, f.1.0, f.1.1.0); spelt = λ c. refl }
back (suc (suc (suc (suc zero)))) h vs f = record { carried = f.0; spelt = λ c. refl }
back (suc (suc (suc (suc (suc zero))))) h vs f = record { carried = (f.0, f.1.0); spelt = λ c. refl }
back (suc (suc (suc (suc (suc (suc zero)))))) h vs f = record { carried = (f.0, f.1.0); spelt = λ c. refl }
back (suc (suc (suc (suc (suc (suc (suc q))))))) h vs f = absurd (let z : ⊥ = omega arith in z)

-- the answer where the program's byte is c and the kind's is x
abbrev by_bytes : List ℕ → ℕ → ℕ → ℕ → Found (ℕ × Word)
by_bytes bs k c x = pick (ltb x 7) (told c (decode_word_kind x bs k)) (Err (k + 1))

word-reads : (m : ℕ × Word) (bs t : List ℕ) (k : ℕ) → Told m → k ≤ length bs → drop k bs ≡ spell_told m ++ t → decode_word bs k ≡ Ok (m, k + length (spell_told m))
word-reads m bs t k s h d =
    let c = m.0 in
    let v = view c m.1 s.1 in
    let q = v.q in
    let fs = (word_format q).fields in
    let vs = v.values in
    let d1 : drop k bs ≡ c ∷ q ∷ (bytes fs vs ++ t) = d ∙ ap (λ l. l ++ t) v.spelt in
    let l : k + 2 ≤ length bs = omega (arith, ends-within bs (c ∷ q ∷ []) (bytes fs vs ++ t) k h d1) in
    let gq : get_or bs (k + 1) 0 ≡ q = stands bs (bytes fs vs ++ t) q (k + 1) (goes_on bs (c ∷ []) (q ∷ (bytes fs vs ++ t)) k 1 refl d1) in
    let n : k + (2 + length (bytes fs vs)) ≡ k + length (spell_told m) = omega (arith, ap length v.spelt) in
    there-ok bs (k + 2) (by_bytes bs k (get_or bs k 0) (get_or bs (k + 1) 0)) l
    ∙ ap (λ x. by_bytes bs k x (get_or bs (k + 1) 0)) (stands bs (q ∷ (bytes fs vs ++ t)) c k d1)
    ∙ ap (by_bytes bs k c) gq
    ∙ ap (λ b. pick b (told c (decode_word_kind q bs k)) (Err (k + 1))) (lt-ltb q 7 v.low)
    ∙ ap (told c) (all_read fs (word_format q).says 256 vs bs t k 2 v.fits l (goes_on bs (c ∷ q ∷ []) (bytes fs vs ++ t) k 2 refl d1))
    ∙ ap (λ z. Ok ((c, z), k + (2 + length (bytes fs vs)))) v.is
    ∙ ap (λ i. Ok (m, i)) n

-- the two bytes in front
two-front : (bs : List ℕ) (k : ℕ) → k + 2 ≤ length bs → drop k bs ≡ get_or bs k 0 ∷ get_or bs (k + 1) 0 ∷ drop (k + 2) bs
two-front bs k l =
    one_more bs k (k + 1) (omega arith) refl ∙ ap (λ t. get_or bs k 0 ∷ t) (one_more bs (k + 1) (k + 2) (omega arith) (omega arith))

-- what is known of a word that was read
pub record Was (bs : List ℕ) (k : ℕ) (r : (ℕ × Word) × ℕ) : Type 0 where
  pub sent : Told r.0
  pub after : k < r.1
  pub within : r.1 ≤ length bs
  pub spelt : drop k bs ≡ spell_told r.0 ++ drop r.1 bs

-- what is known of a fault, but that no word stands there
record FaultAt (bs : List ℕ) (k j : ℕ) : Type 0 where
  from : k ≤ j
  within : j ≤ length bs
  before : (m : ℕ × Word) × Told m × Begins spell_told bs k (j - k) m
  here : j < length bs → (m : ℕ × Word) → Told m → Begins spell_told bs k (suc (j - k)) m → ⊥

-- "no" to a program
refusal : (c : ℕ) → c < 256 → Told (c, no)
unfolding CarriedWord
refusal c h = (h, tt)

-- what a reader's answer tells of a row
abbrev Tells : List ℕ → ℕ → Found (ℕ × Word) → Type 0
Tells bs k (Ok r) = Was bs k r
Tells bs k (Err j) = k ≤ length bs → FaultAt bs k j

word-tells : (bs : List ℕ) (k : ℕ) → Bytes bs → Tells bs k (decode_word bs k)
word-tells bs k b =
    let g = get_or bs (k + 1) 0 in
    by-there bs (k + 2) _ (Tells bs k)
    (λ l. by-pick (ltb g 7) _ _ (Tells bs k)
    (λ t. inside l (ltb-true g 7 t) (decode_word_kind g bs k) (all-tell Word (word_format g).fields (word_format g).says 256 bs k 2 l b))
    (λ t. (λ h. at-kind l (ltb-false g 7 t))))
    (λ l. (λ h. at-end h l))
  where
    was : (y : Word × ℕ) → k + 2 ≤ length bs → get_or bs (k + 1) 0 < 7 → AllGot 256 (word_format (get_or bs (k + 1) 0)).fields (word_format (get_or bs (k + 1) 0)).says bs k 2 y →
        Was bs k ((get_or bs k 0, y.0), y.1)
    was y l low a =
        let c = get_or bs k 0 in
        let g = get_or bs (k + 1) 0 in
        let k' = back g low a.values a.fits in
        let P : Word → Type 0 = λ w. CarriedWord w × (drop k bs ≡ encode_word c w ++ drop y.1 bs) in
        let w = subst P a.is
        (k'.carried, two-front bs k l ∙ ap (λ t. c ∷ g ∷ t) a.spelt ∙ ap (λ t. t ++ drop y.1 bs) (sym (k'.spelt c))) in
        record { sent = (b k, w.0); after = omega (arith, a.from); within = a.within; spelt = w.1 }

    -- the bytes from k on up to n, with the two bytes in front
    front : (n : ℕ) → k + 2 ≤ length bs → k + 2 ≤ n → take (n - k) (drop k bs) ≡ get_or bs k 0 ∷ get_or bs (k + 1) 0 ∷ take (n - (k + 2)) (drop (k + 2) bs)
    front n l m = past bs (get_or bs k 0 ∷ get_or bs (k + 1) 0 ∷ []) k (k + 2) n refl (two-front bs k l) m

    at-end : k ≤ length bs → length bs < k + 2 → FaultAt bs k (length bs)
    at-end h l =
        record {
          from = h;
          within = omega arith;
          before =
              elim (cases_lt k (length bs)) [
                | inl a ↦ (
                  (get_or bs k 0, no),
                  refusal (get_or bs k 0) (b k),
                  (0 ∷ 255 ∷ [], ap (λ t. t ++ 0 ∷ 255 ∷ []) (take_rest bs k ∙ one_more bs k (k + 1) a refl ∙ ap (λ t. get_or bs k 0 ∷ t) (drop_all (k + 1) bs (omega arith)))),
                )
                | inr a ↦ (
                  (0, no),
                  refusal 0 (omega arith),
                  (0 ∷ 0 ∷ 255 ∷ [], ap (λ t. t ++ 0 ∷ 0 ∷ 255 ∷ []) (take_rest bs k ∙ drop_all k bs a)),
                )
              ];
          here = λ m _ _ _. omega arith;
        }

    at-kind : k + 2 ≤ length bs → 7 ≤ get_or bs (k + 1) 0 → FaultAt bs k (k + 1)
    at-kind l high =
        let c = get_or bs k 0 in
        let g = get_or bs (k + 1) 0 in
        let z : k + 1 - k ≡ 1 = omega arith in
        record {
          from = omega arith;
          within = omega arith;
          before = (
            (c, no),
            refusal c (b k),
            (0 ∷ 255 ∷ [], ap (λ n. take n (drop k bs) ++ 0 ∷ 255 ∷ []) z ∙ ap (λ t. take 1 t ++ 0 ∷ 255 ∷ []) (two-front bs k l)),
          );
          here = λ _ m s w.
              let v = view m.0 m.1 s.1 in
              let z1 : suc (k + 1 - k) ≡ 2 = omega arith in
              let f : take (suc (k + 1 - k)) (drop k bs) ≡ c ∷ g ∷ [] = ap (λ n. take n (drop k bs)) z1 ∙ ap (take 2) (two-front bs k l) in
              let e1 : c ∷ g ∷ w.0 ≡ m.0 ∷ v.q ∷ bytes (word_format v.q).fields v.values = sym (ap (λ t. t ++ w.0) f) ∙ w.1 ∙ v.spelt in
              let same : g ≡ v.q = heads g v.q w.0 (bytes (word_format v.q).fields v.values) (ap (drop 1) e1) in
              omega (arith, v.low);
        }

    fault : (i : ℕ) → k + 2 ≤ length bs → get_or bs (k + 1) 0 < 7 → AllBad 256 (word_format (get_or bs (k + 1) 0)).fields bs k 2 i → FaultAt bs k i
    fault i l low d =
        let c = get_or bs k 0 in
        let g = get_or bs (k + 1) 0 in
        let fs = (word_format g).fields in
        let vs = d.before.0 in
        let t = d.before.1 in
        let k' = back g low vs d.before.2 in
        record {
          from = omega (arith, d.from);
          within = d.within;
          before = (
            (c, apply fs (word_format g).says vs),
            (b k, k'.carried),
            (t, ap (λ l. l ++ t) (front i l d.from) ∙ ap (λ l. c ∷ g ∷ l) d.before.3 ∙ sym (k'.spelt c)),
          );
          here = λ n m s w.
              let v = view m.0 m.1 s.1 in
              let rest = take (suc (i - (k + 2))) (drop (k + 2) bs) in
              let f = past_one bs (c ∷ g ∷ []) k (k + 2) i refl (two-front bs k l) d.from in
              let e1 : c ∷ g ∷ (rest ++ w.0) ≡ m.0 ∷ v.q ∷ bytes (word_format v.q).fields v.values = sym (ap (λ t. t ++ w.0) f) ∙ w.1 ∙ v.spelt in
              let same : g ≡ v.q = heads g v.q (rest ++ w.0) (bytes (word_format v.q).fields v.values) (ap (drop 1) e1) in
              let P : ℕ → Type 0 = λ q. AllBad 256 (word_format q).fields bs k 2 i in
              let tails : rest ++ w.0 ≡ bytes (word_format v.q).fields v.values = ap (drop 2) e1 in
              (subst P same d).here n v.values w.0 [] v.fits (tails ∙ sym (append-nil (bytes (word_format v.q).fields v.values)));
        }

    inside : k + 2 ≤ length bs → get_or bs (k + 1) 0 < 7 → (x : Found Word) →
        AllTell 256 (word_format (get_or bs (k + 1) 0)).fields (word_format (get_or bs (k + 1) 0)).says bs k 2 x → Tells bs k (told (get_or bs k 0) x)
    inside l low (Ok y) a = was y l low a
    inside l low (Err j) a = λ h. fault j l low (a (omega arith))

-- a row that is short enough
short : (bs : List ℕ) (k : ℕ) → length bs < 4294967296 → read_told bs k ≡ decode_word bs k
short bs k l = ap (λ b. pick b (Err 4294967295) (decode_word bs k)) (lt-leb 4294967296 (length bs) l)

pub read-was : (bs : List ℕ) (k : ℕ) → Bytes bs → (r : (ℕ × Word) × ℕ) → read_told bs k ≡ Ok r → Was bs k r
read-was bs k b r =
    by-pick (leb 4294967296 (length bs)) _ _ (λ x. x ≡ Ok r → Was bs k r) (λ _ q. absurd (err-not-ok r 4294967295 q)) (λ _ q. subst (Tells bs k) q (word-tells bs k b))

pub reads-word-back : ReadsWordBack
unfolding ReadsWordBack
reads-word-back m before behind s l =
    short (before ++ (spell_told m ++ behind)) (length before) l
    ∙ word-reads m (before ++ (spell_told m ++ behind)) behind (length before) s (omega (arith, length-append before (spell_told m ++ behind)))
    (drop_at before (spell_told m ++ behind) (length before) refl)

pub reads-words-only : ReadsWordsOnly
unfolding ReadsWordsOnly
reads-words-only bs k m to b q =
    let w = read-was bs k b (m, to) q in
    (w.sent, w.after, w.within, size-read bs (spell_told m) k to w.after w.within w.spelt)

pub word-faults-first : WordFaultsFirst
unfolding WordFaultsFirst
word-faults-first bs k j b l h q =
    let d = sym (short bs k l) ∙ q in
    let f = subst (Tells bs k) d (word-tells bs k b) h in
    record {
      from = f.from;
      within = f.within;
      before = f.before;
      here = f.here;
      none = λ m s w. ok-not-err (m, k + length (spell_told m)) j (sym (word-reads m bs w.0 k s h w.1) ∙ d);
    }

pub word-faults-where-none : WordFaultsWhereNone
unfolding WordFaultsWhereNone
word-faults-where-none bs k b none =
    answer (read_told bs k) (λ r q. let w = read-was bs k b r q in none r.0 w.sent (drop r.1 bs, w.spelt))
