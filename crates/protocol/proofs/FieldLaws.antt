-- Each kind of field: what is spelled is read, what is read is spelled so, and a fault is at the first byte that no such field has.
use Rattle.std.proofs.Common.{◌≡◌, ℕ, ◌+◌, ◌*◌, ◌^◌, ◌<◌, ◌≤◌, true, false, List, [], ◌∷◌, ◌++◌, length, get_or, take, drop, ℤ, pos, neg_ℤ, ◌≤ℤ◌, ◌<ℤ◌, Ok, sym, refl, ap, ◌∙◌, arith}
use Rattle.std.proofs.lemmas.Int.{ints}
use Rattle.std.proofs.lemmas.Bool.{le-ltb, lt-ltb, eq-eqb}
use Rattle.std.proofs.lemmas.List.{length-drop}
use Rattle.protocol.specs.Fields.{Bytes, Field, program, byte, plain, near, far, mark, only, row, Says, spell, field, number, numbers, digits, all_digits, unsigned}
use Rattle.protocol.specs.Laws.{Near, Far, Row}
use Rattle.protocol.proofs.Rows.{bytes_drop, length_digits, number_digits, digits_number, number_small, length-numbers, numbers-small, length-all-digits, numbers-all-digits, all-digits-numbers}
use Rattle.protocol.proofs.Signs.{stands-for}
use Rattle.protocol.proofs.Tests.{ends-within, goes_on, stands, one_more, some_more}

-- what a field can say, where there are p programs
abbrev pub Fit : ℕ → (f : Field) → Says f → Type 0
Fit p program v = v < p
Fit p byte v = v < 256
Fit p (plain w) v = v < 256 ^ w
Fit p near v = Near v
Fit p far v = Far v
Fit p mark v = Unit {0}
Fit p (only b) v = Unit {0}
Fit p (row w) v = Row v (256 ^ w)

near-range : (z : ℤ) → Near z → (neg_ℤ (pos 32768) ≤ℤ z) × (z <ℤ pos 32768)
unfolding Near
near-range z n = (n.0, omega (arith, ints, n.1))

pub near-from : (z : ℤ) → neg_ℤ (pos 32768) ≤ℤ z → z <ℤ pos 32768 → Near z
unfolding Near
near-from z a b = (a, omega (arith, ints))

far-range : (z : ℤ) → Far z → (neg_ℤ (pos 2147483648) ≤ℤ z) × (z <ℤ pos 2147483648)
unfolding Far
far-range z n = (n.0, omega (arith, ints, n.1))

pub far_from : (z : ℤ) → neg_ℤ (pos 2147483648) ≤ℤ z → z <ℤ pos 2147483648 → Far z
unfolding Far
far_from z a b = (a, omega (arith, ints))

-- What is spelled is read.
pub field-reads : (f : Field) (p : ℕ) (v : Says f) (bs t : List ℕ) (k o : ℕ) → Fit p f v → k + o ≤ length bs → drop (k + o) bs ≡ spell f v ++ t →
    field f p bs k o ≡ Ok (v, o + length (spell f v))
unfolding Row
field-reads program p v bs t k o fit h e =
    let l : k + (o + 1) ≤ length bs = omega (arith, ends-within bs (v ∷ []) t (k + o) h e) in
    rw (le-ltb (length bs) (k + (o + 1)) l, stands bs t v (k + o) e, lt-ltb v p fit)
field-reads byte p v bs t k o fit h e =
    let l : k + (o + 1) ≤ length bs = omega (arith, ends-within bs (v ∷ []) t (k + o) h e) in
    rw (le-ltb (length bs) (k + (o + 1)) l, stands bs t v (k + o) e)
field-reads (plain w) p v bs t k o fit h e =
    let l : k + (o + w) ≤ length bs = omega (arith, ends-within bs (digits w v) t (k + o) h e, length_digits w v) in
    rw (le-ltb (length bs) (k + (o + w)) l, e, number_digits w v t fit, length_digits w v)
field-reads near p v bs t k o fit h e =
    let r = near-range v fit in
    let s = stands-for 32768 v r.0 r.1 in
    let l : k + (o + 2) ≤ length bs = omega (arith, ends-within bs (digits 2 (unsigned 32768 v)) t (k + o) h e) in
    let n : number 2 (drop (k + o) bs) ≡ unsigned 32768 v = ap (number 2) e ∙ number_digits 2 (unsigned 32768 v) t s.0 in
    rw (le-ltb (length bs) (k + (o + 2)) l, n, s.1)
field-reads far p v bs t k o fit h e =
    let r = far-range v fit in
    let s = stands-for 2147483648 v r.0 r.1 in
    let l : k + (o + 4) ≤ length bs = omega (arith, ends-within bs (digits 4 (unsigned 2147483648 v)) t (k + o) h e) in
    let n : number 4 (drop (k + o) bs) ≡ unsigned 2147483648 v = ap (number 4) e ∙ number_digits 4 (unsigned 2147483648 v) t s.0 in
    rw (le-ltb (length bs) (k + (o + 4)) l, n, s.1)
field-reads mark p true bs t k o fit h e =
    let l : k + (o + 1) ≤ length bs = omega (arith, ends-within bs (1 ∷ []) t (k + o) h e) in
    rw (le-ltb (length bs) (k + (o + 1)) l, stands bs t 1 (k + o) e)
field-reads mark p false bs t k o fit h e =
    let l : k + (o + 1) ≤ length bs = omega (arith, ends-within bs (0 ∷ []) t (k + o) h e) in
    rw (le-ltb (length bs) (k + (o + 1)) l, stands bs t 0 (k + o) e)
field-reads (only b) p v bs t k o fit h e =
    let l : k + (o + 1) ≤ length bs = omega (arith, ends-within bs (b ∷ []) t (k + o) h e) in
    rw (le-ltb (length bs) (k + (o + 1)) l, stands bs t b (k + o) e, eq-eqb b b refl)
field-reads (row w) p v bs t k o fit h e =
    let n = length v in
    let c : number 2 (drop (k + o) bs) ≡ n = ap (number 2) e ∙ number_digits 2 n (all_digits w v ++ t) (omega (arith, fit.0)) in
    let le = ends-within bs (digits 2 n ++ all_digits w v) t (k + o) h e in
    let a = length-all-digits w v in
    let l1 : k + (o + 2) ≤ length bs = omega arith in
    let l2 : k + (o + 2 + w * n) ≤ length bs = omega arith in
    let i : k + o + 2 ≡ k + (o + 2) = omega arith in
    let d : drop (k + (o + 2)) bs ≡ all_digits w v ++ t = sym (ap (λ j. drop j bs) i) ∙ goes_on bs (digits 2 n) (all_digits w v ++ t) (k + o) 2 refl e in
    let s : o + 2 + w * n ≡ o + length (digits 2 n ++ all_digits w v) = omega arith in
    rw (le-ltb (length bs) (k + (o + 2)) l1, c, le-ltb (length bs) (k + (o + 2 + w * n)) l2, d, numbers-all-digits w v t fit.1) (ap (λ m. Ok (v, m)) s)

-- What is read is spelled so.
pub record Got (p : ℕ) (f : Field) (bs : List ℕ) (k o : ℕ) (r : Says f × ℕ) : Type 0 where
  pub fits : Fit p f r.0
  pub size : r.1 ≡ o + length (spell f r.0)
  pub within : k + r.1 ≤ length bs
  pub spelt : drop (k + o) bs ≡ spell f r.0 ++ drop (k + r.1) bs

-- so many bytes of a row
pub bytes-spelt : (bs : List ℕ) (k o w : ℕ) → k + (o + w) ≤ length bs → Bytes bs → drop (k + o) bs ≡ digits w (number w (drop (k + o) bs)) ++ drop (k + (o + w)) bs
bytes-spelt bs k o w l b =
    let m : w ≤ length (drop (k + o) bs) = simp length-drop (omega arith) in
    some_more bs (k + o) w (k + (o + w)) (omega arith)
    ∙ ap (λ t. t ++ drop (k + (o + w)) bs) (sym (digits_number w (drop (k + o) bs) m (bytes_drop (k + o) bs b)))

byte-spelt : (bs : List ℕ) (k o : ℕ) → k + (o + 1) ≤ length bs → drop (k + o) bs ≡ get_or bs (k + o) 0 ∷ drop (k + (o + 1)) bs
byte-spelt bs k o l = one_more bs (k + o) (k + (o + 1)) (omega arith) (omega arith)

-- a field of one byte
pub byte-got : (f : Field) (p : ℕ) (bs : List ℕ) (k o : ℕ) → k + (o + 1) ≤ length bs → (v : Says f) → Fit p f v → get_or bs (k + o) 0 ∷ [] ≡ spell f v → Got p f bs k o (v, o + 1)
byte-got f p bs k o l v fit e =
    record { fits = fit; size = ap (λ t. o + length t) e; within = l; spelt = byte-spelt bs k o l ∙ ap (λ t. t ++ drop (k + (o + 1)) bs) e }

-- a field of w bytes
pub width-got : (f : Field) (p : ℕ) (bs : List ℕ) (k o w : ℕ) → k + (o + w) ≤ length bs → Bytes bs → (v : Says f) → Fit p f v → digits w (number w (drop (k + o) bs)) ≡ spell f v →
    Got p f bs k o (v, o + w)
width-got f p bs k o w l b v fit e =
    record {
      fits = fit;
      size = ap (λ m. o + m) (sym (length_digits w (number w (drop (k + o) bs)))) ∙ ap (λ t. o + length t) e;
      within = l;
      spelt = bytes-spelt bs k o w l b ∙ ap (λ t. t ++ drop (k + (o + w)) bs) e;
    }

pub row-got : (p : ℕ) (bs : List ℕ) (k o w : ℕ) → k + (o + 2) ≤ length bs → k + (o + 2 + w * number 2 (drop (k + o) bs)) ≤ length bs → Bytes bs →
    Got p (row w) bs k o (numbers w (number 2 (drop (k + o) bs)) (drop (k + (o + 2)) bs), o + 2 + w * number 2 (drop (k + o) bs))
unfolding Row
row-got p bs k o w l l2 b =
    let xs = drop (k + o) bs in
    let n = number 2 xs in
    let ys = drop (k + (o + 2)) bs in
    let v = numbers w n ys in
    let to = o + 2 + w * n in
    let small = number_small 2 xs (bytes_drop (k + o) bs b) in
    let lv : length v ≡ n = length-numbers w n ys in
    let la = length-all-digits w v in
    let lw : w * length v ≡ w * n = ap (λ m. w * m) lv in
    let ly : w * n ≤ length ys = simp length-drop (omega arith) in
    let all : all_digits w v ≡ take (w * n) ys = all-digits-numbers w n ys ly (bytes_drop (k + (o + 2)) bs b) in
    let rest : ys ≡ all_digits w v ++ drop (k + to) bs =
    some_more bs (k + (o + 2)) (w * n) (k + to) (omega arith) ∙ ap (λ t. t ++ drop (k + to) bs) (sym all) in
    record {
      fits = (omega arith, numbers-small w n ys (bytes_drop (k + (o + 2)) bs b));
      size = omega arith;
      within = l2;
      spelt = bytes-spelt bs k o 2 l b ∙ ap (λ t. digits 2 n ++ t) rest ∙ ap (λ m. digits 2 m ++ (all_digits w v ++ drop (k + to) bs)) (sym lv);
    }
