-- Fields one after another: what is spelled is read, what is read is spelled so, and a fault is at the first byte that no such fields have.
use Rattle.std.proofs.Common.{◌≡◌, ℕ, suc, ◌+◌, ◌-◌, ◌<◌, ◌≤◌, List, [], ◌∷◌, ◌++◌, length, take, drop, Ok, Err, sym, refl, ap, ◌∙◌, arith}
use lib.Seq.{take-append-add}
use Rattle.std.proofs.lemmas.List.{append_assoc, append_cancel_left, length-append}
use Rattle.protocol.specs.Fields.{Bytes, Field, Says, spell, field, From, Found, then, decode}
use Rattle.protocol.proofs.Tests.{ok_same, ends-within, goes_on}
use Rattle.protocol.proofs.FieldLaws.{Fit, field-reads, Got}
use Rattle.protocol.proofs.FieldFaults.{Bad, some, some_fits, Tells, field-tells}

-- what several fields say, all at once
abbrev pub Values : List Field → Type 0
Values [] = Unit {0}
Values (f ∷ fs) = Says f × Values fs

abbrev pub apply : {A : Type 0} (fs : List Field) → From fs A → Values fs → A
apply [] m vs = m
apply (f ∷ fs) m vs = apply fs (m vs.0) vs.1

abbrev pub bytes : (fs : List Field) → Values fs → List ℕ
bytes [] vs = []
bytes (f ∷ fs) vs = spell f vs.0 ++ bytes fs vs.1

abbrev pub Fits : ℕ → (fs : List Field) → Values fs → Type 0
Fits p [] vs = Unit {0}
Fits p (f ∷ fs) vs = Fit p f vs.0 × Fits p fs vs.1

pub all_read : {A : Type 0} (fs : List Field) (m : From fs A) (p : ℕ) (vs : Values fs) (bs t : List ℕ) (k o : ℕ) → Fits p fs vs → k + o ≤ length bs → drop (k + o) bs ≡ bytes fs vs ++ t →
    decode fs m p bs k o ≡ Ok (apply fs m vs, k + (o + length (bytes fs vs)))
all_read [] m p vs bs t k o fits h e = ap (λ n. Ok (m, n)) (let z : k + o ≡ k + (o + 0) = omega arith in z)
all_read (f ∷ fs) m p vs bs t k o fits h e =
    let v = vs.0 in
    let n = length (spell f v) in
    let rest = bytes fs vs.1 in
    let e1 : drop (k + o) bs ≡ spell f v ++ (rest ++ t) = e ∙ append_assoc (spell f v) rest t in
    let l : k + (o + n) ≤ length bs = omega (arith, ends-within bs (spell f v) (rest ++ t) (k + o) h e1) in
    let i : k + o + n ≡ k + (o + n) = omega arith in
    let e2 : drop (k + (o + n)) bs ≡ rest ++ t = sym (ap (λ j. drop j bs) i) ∙ goes_on bs (spell f v) (rest ++ t) (k + o) n refl e1 in
    let s : k + (o + n + length rest) ≡ k + (o + length (spell f v ++ rest)) = omega (arith, length-append (spell f v) rest) in
    ap (λ x. then x (λ v to. decode fs (m v) p bs k to)) (field-reads f p v bs (rest ++ t) k o fits.0 h e1)
    ∙ all_read fs (m v) p vs.1 bs t k (o + n) fits.1 l e2
    ∙ ap (λ j. Ok (apply fs (m v) vs.1, j)) s

pub record AllGot {A : Type 0} (p : ℕ) (fs : List Field) (m : From fs A) (bs : List ℕ) (k o : ℕ) (r : A × ℕ) : Type 0 where
  pub values : Values fs
  pub fits : Fits p fs values
  pub is : apply fs m values ≡ r.0
  pub from : k + o ≤ r.1
  pub within : r.1 ≤ length bs
  pub spelt : drop (k + o) bs ≡ bytes fs values ++ drop r.1 bs

-- fields that say anything
pub some-all : (fs : List Field) (p : ℕ) → 0 < p → (vs : Values fs) × Fits p fs vs
some-all [] p h = (tt, tt)
some-all (f ∷ fs) p h = let r = some-all fs p h in ((some f, r.0), (some_fits f p h, r.1))

pub record AllBad (p : ℕ) (fs : List Field) (bs : List ℕ) (k o j : ℕ) : Type 0 where
  pub from : k + o ≤ j
  pub within : j ≤ length bs
  pub before : (vs : Values fs) × (t : List ℕ) × Fits p fs vs × (take (j - (k + o)) (drop (k + o) bs) ++ t ≡ bytes fs vs)
  pub here : j < length bs → (vs : Values fs) (t u : List ℕ) → Fits p fs vs → take (suc (j - (k + o))) (drop (k + o) bs) ++ t ≡ bytes fs vs ++ u → ⊥

-- two fields that begin alike say the same
same-said : (f : Field) (p : ℕ) (v w : Says f) (s t : List ℕ) → Fit p f v → Fit p f w → spell f v ++ s ≡ spell f w ++ t → v ≡ w
same-said f p v w s t a b e =
    let z : 0 + 0 ≤ length (spell f v ++ s) = omega arith in
    ap (λ r. r.0)
    (ok_same (v, 0 + length (spell f v)) (w, 0 + length (spell f w))
    (sym (field-reads f p v (spell f v ++ s) s 0 0 a z refl) ∙ field-reads f p w (spell f v ++ s) t 0 0 b z e))

-- the first bytes of a row that begins with xs, and goes on from the byte `to` on
pub past : (bs xs : List ℕ) (i to n : ℕ) → to ≡ i + length xs → drop i bs ≡ xs ++ drop to bs → to ≤ n → take (n - i) (drop i bs) ≡ xs ++ take (n - to) (drop to bs)
past bs xs i to n l e h =
    let z : n - i ≡ length xs + (n - to) = omega arith in
    ap (λ m. take m (drop i bs)) z ∙ ap (take (length xs + (n - to))) e ∙ take-append-add xs (drop to bs) (n - to)

-- and one byte more
pub past_one : (bs xs : List ℕ) (i to j : ℕ) → to ≡ i + length xs → drop i bs ≡ xs ++ drop to bs → to ≤ j → take (suc (j - i)) (drop i bs) ≡ xs ++ take (suc (j - to)) (drop to bs)
past_one bs xs i to j l e h =
    let z : suc (j - i) ≡ suc j - i = omega arith in
    let z2 : suc j - to ≡ suc (j - to) = omega arith in
    ap (λ n. take n (drop i bs)) z ∙ past bs xs i to (suc j) l e (omega arith) ∙ ap (λ n. xs ++ take n (drop to bs)) z2

-- what a reader's answer tells of them
abbrev pub AllTell : {A : Type 0} (p : ℕ) (fs : List Field) → From fs A → List ℕ → ℕ → ℕ → Found A → Type 0
AllTell p fs m bs k o (Ok r) = AllGot p fs m bs k o r
AllTell p fs m bs k o (Err j) = 0 < p → AllBad p fs bs k o j

by-tells : {A : Type 0} (p : ℕ) (f : Field) (bs : List ℕ) (k o : ℕ) (x : Found (Says f)) → Tells p f bs k o x → (g : Says f → ℕ → Found A) (P : Found A → Type 0) →
    ((y : Says f × ℕ) → Got p f bs k o y → P (g y.0 y.1)) → ((j : ℕ) → (0 < p → Bad p f bs k o j) → P (Err j)) → P (then x g)
by-tells p f bs k o (Ok y) t g P a c = a y t
by-tells p f bs k o (Err j) t g P a c = c j t

pub all-tell : (A : Type 0) (fs : List Field) (m : From fs A) (p : ℕ) (bs : List ℕ) (k o : ℕ) → k + o ≤ length bs → Bytes bs → AllTell {A = A} p fs m bs k o (decode {A = A} fs m p bs k o)
all-tell A [] m p bs k o h b = record { values = tt; fits = tt; is = refl; from = omega arith; within = h; spelt = refl }
all-tell A (f ∷ fs) m p bs k o h b =
    by-tells p f bs k o (field f p bs k o) (field-tells f p bs k o h b) (λ v to. decode {A = A} fs (m v) p bs k to) (AllTell {A = A} p (f ∷ fs) m bs k o)
    (λ y g. onward y g (decode {A = A} fs (m y.0) p bs k y.1) (all-tell A fs (m y.0) p bs k y.1 g.within b))
    (λ j d pos. first j pos (d pos))
  where
    first : (i : ℕ) → 0 < p → Bad p f bs k o i → AllBad p (f ∷ fs) bs k o i
    first i pos d =
        let s = some-all fs p pos in
        let v = d.before.0 in
        let t = d.before.1 in
        let xs = take (i - (k + o)) (drop (k + o) bs) in
        record {
          from = d.from;
          within = d.within;
          before = ((v, s.0), t ++ bytes fs s.0, (d.before.2, s.1), sym (append_assoc xs t (bytes fs s.0)) ∙ ap (λ l. l ++ bytes fs s.0) d.before.3);
          here = λ l vs t u g e. d.here l vs.0 t (bytes fs vs.1 ++ u) g.0 (e ∙ append_assoc (spell f vs.0) (bytes fs vs.1) u);
        }

    later : (y : Says f × ℕ) (j : ℕ) → Got p f bs k o y → AllBad p fs bs k y.1 j → AllBad p (f ∷ fs) bs k o j
    later y j g a =
        let v = y.0 in
        let xs = spell f v in
        let i = k + o in
        let to = k + y.1 in
        let lx : to ≡ i + length xs = omega (arith, g.size) in
        let c = past bs xs i to j lx g.spelt a.from in
        let ys = take (j - to) (drop to bs) in
        let vs = a.before.0 in
        let t = a.before.1 in
        record {
          from = omega (arith, a.from);
          within = a.within;
          before = ((v, vs), t, (g.fits, a.before.2), ap (λ l. l ++ t) c ∙ append_assoc xs ys t ∙ ap (λ l. xs ++ l) a.before.3);
          here = λ l ws t u fit e.
              let d = past_one bs xs i to j lx g.spelt a.from in
              let zs = take (suc (j - to)) (drop to bs) in
              let e1 : xs ++ (zs ++ t) ≡ spell f ws.0 ++ (bytes fs ws.1 ++ u) =
              sym (append_assoc xs zs t) ∙ ap (λ l. l ++ t) (sym d) ∙ e ∙ append_assoc (spell f ws.0) (bytes fs ws.1) u in
              let same : v ≡ ws.0 = same-said f p v ws.0 (zs ++ t) (bytes fs ws.1 ++ u) g.fits fit.0 e1 in
              let e2 : xs ++ (zs ++ t) ≡ xs ++ (bytes fs ws.1 ++ u) = e1 ∙ ap (λ s. spell f s ++ (bytes fs ws.1 ++ u)) (sym same) in
              a.here l ws.1 t u fit.1 (append_cancel_left xs (zs ++ t) (bytes fs ws.1 ++ u) e2);
        }

    onward : (y : Says f × ℕ) → Got p f bs k o y → (x : Found A) → AllTell {A = A} p fs (m y.0) bs k y.1 x → AllTell {A = A} p (f ∷ fs) m bs k o x
    onward y g (Ok r) a =
        record {
          values = (y.0, a.values);
          fits = (g.fits, a.fits);
          is = a.is;
          from = omega (arith, g.size, a.from);
          within = a.within;
          spelt = g.spelt ∙ ap (λ t. spell f y.0 ++ t) a.spelt ∙ sym (append_assoc (spell f y.0) (bytes fs a.values) (drop r.1 bs));
        }
    onward y g (Err j) a = λ pos. later y j g (a pos)
