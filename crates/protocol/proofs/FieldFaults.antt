-- What is read of a field is spelled so, and a fault in it is at the first byte that no such field has.
use Rattle.std.proofs.Common.{◌≡◌, ℕ, zero, suc, ◌+◌, ◌-◌, ◌*◌, ◌^◌, ◌<◌, ◌≤◌, Bool, true, false, eqb, ltb, List, [], ◌∷◌, ◌++◌, length, get_or, take, drop, replicate, Ok, Err, sym, refl, ap, ◌∙◌, pow-suc, arith}
use Rattle.std.proofs.lemmas.Bool.{ltb-true, ltb-false, eqb-true, eqb-false}
use Rattle.std.proofs.lemmas.List.{append_assoc, length-append, length-drop, length-replicate, take_all, take_rest, drop_all, drop_more}
use Rattle.protocol.specs.Fields.{Bytes, Field, program, byte, plain, near, far, mark, only, row, Says, spell, field, Found, there, marked, number, numbers, digits, all_digits, signed}
use Rattle.protocol.specs.Laws.{Row}
use Rattle.protocol.proofs.Rows.{bytes_drop, bytes-tail, digits_number, number_small, length-numbers, numbers-small, all-digits-numbers}
use Rattle.protocol.proofs.Signs.{stood-for}
use Rattle.protocol.proofs.Tests.{by-pick, by-there, some_more}
use Rattle.protocol.proofs.FieldLaws.{Fit, Got, near-from, far_from, byte-got, width-got, row-got}

-- up to the byte j there is a field that begins so, and with it there is none
pub record Bad (p : ℕ) (f : Field) (bs : List ℕ) (k o j : ℕ) : Type 0 where
  pub from : k + o ≤ j
  pub within : j ≤ length bs
  pub before : (v : Says f) × (t : List ℕ) × Fit p f v × (take (j - (k + o)) (drop (k + o) bs) ++ t ≡ spell f v)
  pub here : j < length bs → (v : Says f) (t u : List ℕ) → Fit p f v → take (suc (j - (k + o))) (drop (k + o) bs) ++ t ≡ spell f v ++ u → ⊥

-- a byte is missing
missing : (p : ℕ) (f : Field) (bs : List ℕ) (k o : ℕ) → k + o ≤ length bs → (v : Says f) (t : List ℕ) → Fit p f v → drop (k + o) bs ++ t ≡ spell f v → Bad p f bs k o (length bs)
missing p f bs k o h v t fit e =
    record {
      from = h;
      within = omega arith;
      before = (v, t, fit, ap (λ l. l ++ t) (take_rest bs (k + o)) ∙ e);
      here = λ l _ _ _ _ _. omega arith;
    }

-- the byte that stands there is one that no such field begins with
wrong : (p : ℕ) (f : Field) (bs : List ℕ) (k o : ℕ) → k + (o + 1) ≤ length bs → (v : Says f) → Fit p f v →
    ((v : Says f) (t u : List ℕ) → Fit p f v → get_or bs (k + o) 0 ∷ t ≡ spell f v ++ u → ⊥) → Bad p f bs k o (k + o)
wrong p f bs k o h v fit not =
    let i = k + o in
    let z : i - i ≡ 0 = omega arith in
    record {
      from = omega arith;
      within = omega arith;
      before = (v, spell f v, fit, ap (λ n. take n (drop i bs) ++ spell f v) z);
      here = λ l w t u g e. not w t u g (sym (first l t) ∙ e);
    }
  where
    first : k + o < length bs → (t : List ℕ) → take (suc (k + o - (k + o))) (drop (k + o) bs) ++ t ≡ get_or bs (k + o) 0 ∷ t
    first l t =
        let z : k + o - (k + o) ≡ 0 = omega arith in
        ap (λ n. take (suc n) (drop (k + o) bs) ++ t) z ∙ ap (λ m. take 1 m ++ t) (drop_more bs (k + o) 0 l)

-- the byte that a list begins with
pub heads : (a b : ℕ) (s t : List ℕ) → a ∷ s ≡ b ∷ t → a ≡ b
heads a b s t e = ap (λ l. get_or l 0 0) e

-- Rows of zeros, to fill up what is missing.
bytes-zeros : (n : ℕ) → Bytes (replicate n 0)
bytes-zeros zero i = omega arith
bytes-zeros (suc n) zero = omega arith
bytes-zeros (suc n) (suc i) = bytes-zeros n i

bytes-append : (xs ys : List ℕ) → Bytes xs → Bytes ys → Bytes (xs ++ ys)
bytes-append [] ys a b i = b i
bytes-append (x ∷ xs) ys a b zero = a 0
bytes-append (x ∷ xs) ys a b (suc i) = bytes-append xs ys (bytes-tail x xs a) b i

filled : (w : ℕ) (xs : List ℕ) → length xs ≤ w → length (xs ++ replicate (w - length xs) 0) ≡ w
filled w xs h = simp (length-append, length-replicate) (omega arith)

fill : (w : ℕ) (xs : List ℕ) → length xs ≤ w → Bytes xs → (v : ℕ) × (t : List ℕ) × (v < 256 ^ w) × (xs ++ t ≡ digits w v)
fill w xs h b =
    let t = replicate (w - length xs) 0 in
    let ys = xs ++ t in
    let l : length ys ≡ w = filled w xs h in
    let c : Bytes ys = bytes-append xs t b (bytes-zeros (w - length xs)) in
    (number w ys, t, number_small w ys c, sym (take_all w ys (omega arith)) ∙ sym (digits_number w ys (omega arith) c))

power_pos : (w : ℕ) → 0 < 256 ^ w
power_pos zero = omega arith
power_pos (suc w) = omega (arith, pow-suc 256 w, power_pos w)

zeros-small : (w n k : ℕ) → get_or (replicate n 0) k 0 < 256 ^ w
zeros-small w zero k = power_pos w
zeros-small w (suc n) zero = power_pos w
zeros-small w (suc n) (suc k) = zeros-small w n k

none_left : (bs : List ℕ) (k o : ℕ) (v : ℕ) → length bs < k + (o + 1) → drop (k + o) bs ++ (v ∷ []) ≡ v ∷ []
none_left bs k o v l = ap (λ t. t ++ (v ∷ [])) (drop_all (k + o) bs (omega arith))

few-left : (bs : List ℕ) (k o w : ℕ) → length bs < k + (o + w) → length (drop (k + o) bs) ≤ w
few-left bs k o w l = simp length-drop (omega arith)

-- what a field may say if it may say anything
pub some : (f : Field) → Says f
some program = 0
some byte = 0
some (plain w) = 0
some near = signed 32768 0
some far = signed 2147483648 0
some mark = false
some (only b) = tt
some (row w) = []

pub some_fits : (f : Field) (p : ℕ) → 0 < p → Fit p f (some f)
unfolding some Row
some_fits program p h = h
some_fits byte p h = omega arith
some_fits (plain w) p h = power_pos w
some_fits near p h = let s = stood-for 32768 0 (omega arith) in near-from (signed 32768 0) s.1 s.2
some_fits far p h = let s = stood-for 2147483648 0 (omega arith) in far_from (signed 2147483648 0) s.1 s.2
some_fits mark p h = tt
some_fits (only b) p h = tt
some_fits (row w) p h = (omega arith, λ k. zeros-small w 0 k)

-- a row whose count is cut short, and one whose elements are
count-missing : (p : ℕ) (bs : List ℕ) (k o w : ℕ) → k + o ≤ length bs → Bytes bs → length bs < k + (o + 2) → Bad p (row w) bs k o (length bs)
unfolding Row
count-missing p bs k o w h b l =
    let xs = drop (k + o) bs in
    let c = fill 2 xs (few-left bs k o 2 l) (bytes_drop (k + o) bs b) in
    let n = c.0 in
    let v = replicate n 0 in
    let lv : length v ≡ n = length-replicate n 0 in
    missing p (row w) bs k o h v (c.1 ++ all_digits w v) (omega (arith, c.2), zeros-small w n)
    (sym (append_assoc xs c.1 (all_digits w v)) ∙ ap (λ t. t ++ all_digits w v) c.3 ∙ ap (λ m. digits 2 m ++ all_digits w v) (sym lv))

elements-missing : (p : ℕ) (bs : List ℕ) (k o w : ℕ) → k + o ≤ length bs → Bytes bs → k + (o + 2) ≤ length bs → length bs < k + (o + 2 + w * number 2 (drop (k + o) bs)) →
    Bad p (row w) bs k o (length bs)
unfolding Row
elements-missing p bs k o w h b l m =
    let xs = drop (k + o) bs in
    let n = number 2 xs in
    let ys = drop (k + (o + 2)) bs in
    let b2 = bytes_drop (k + (o + 2)) bs b in
    let s : length ys ≤ w * n = simp length-drop (omega arith) in
    let t : List ℕ = replicate (w * n - length ys) 0 in
    let zs = ys ++ t in
    let lz : length zs ≡ w * n = filled (w * n) ys s in
    let bz : Bytes zs = bytes-append ys t b2 (bytes-zeros (w * n - length ys)) in
    let v = numbers w n zs in
    let lv : length v ≡ n = length-numbers w n zs in
    let all : zs ≡ all_digits w v = sym (take_all (w * n) zs (omega arith)) ∙ sym (all-digits-numbers w n zs (omega arith) bz) in
    let lx : 2 ≤ length xs = simp length-drop (omega arith) in
    let two : take 2 xs ≡ digits 2 n = sym (digits_number 2 xs lx (bytes_drop (k + o) bs b)) in
    let cut : xs ≡ digits 2 n ++ ys = some_more bs (k + o) 2 (k + (o + 2)) (omega arith) ∙ ap (λ t. t ++ ys) two in
    missing p (row w) bs k o h v t (omega (arith, number_small 2 xs (bytes_drop (k + o) bs b)), numbers-small w n zs bz)
    (ap (λ l. l ++ t) cut ∙ append_assoc (digits 2 n) ys t ∙ ap (λ l. digits 2 n ++ l) all ∙ ap (λ m. digits 2 m ++ all_digits w v) (sym lv))

-- What a reader's answer tells of a field.
abbrev pub Tells : (p : ℕ) (f : Field) → List ℕ → ℕ → ℕ → Found (Says f) → Type 0
Tells p f bs k o (Ok r) = Got p f bs k o r
Tells p f bs k o (Err j) = 0 < p → Bad p f bs k o j

-- where any w bytes are such a field
width-tells : (f : Field) (p w : ℕ) (says : ℕ → Says f) → ((n : ℕ) → n < 256 ^ w → Fit p f (says n) × (digits w n ≡ spell f (says n))) →
    (bs : List ℕ) (k o : ℕ) → k + o ≤ length bs → Bytes bs → Tells p f bs k o (there bs (k + (o + w)) (Ok (says (number w (drop (k + o) bs)), o + w)))
width-tells f p w says all bs k o h b =
    let xs = drop (k + o) bs in
    let bx = bytes_drop (k + o) bs b in
    by-there bs (k + (o + w)) _ (Tells p f bs k o)
    (λ l. let g = all (number w xs) (number_small w xs bx) in width-got f p bs k o w l b (says (number w xs)) g.0 g.1)
    (λ l. (λ _. let c = fill w xs (few-left bs k o w l) bx in let g = all c.0 c.2 in missing p f bs k o h (says c.0) c.1 g.0 (c.3 ∙ g.1)))

pub field-tells : (f : Field) (p : ℕ) (bs : List ℕ) (k o : ℕ) → k + o ≤ length bs → Bytes bs → Tells p f bs k o (field f p bs k o)
field-tells program p bs k o h b =
    let g = get_or bs (k + o) 0 in
    by-there bs (k + (o + 1)) _ (Tells p program bs k o)
    (λ l. by-pick (ltb g p) _ _ (Tells p program bs k o)
    (λ t. byte-got program p bs k o l g (ltb-true g p t) refl)
    (λ t. (λ pos. wrong p program bs k o l 0 pos (λ v s u fit e. omega (arith, heads g v s u e, ltb-false g p t, fit)))))
    (λ l. (λ pos. missing p program bs k o h 0 (0 ∷ []) pos (none_left bs k o 0 l)))
field-tells byte p bs k o h b =
    by-there bs (k + (o + 1)) _ (Tells p byte bs k o)
    (λ l. byte-got byte p bs k o l (get_or bs (k + o) 0) (b (k + o)) refl)
    (λ l. (λ _. missing p byte bs k o h 0 (0 ∷ []) (omega arith) (none_left bs k o 0 l)))
field-tells (plain w) p bs k o h b = width-tells (plain w) p w (λ n. n) (λ n l. (l, refl)) bs k o h b
field-tells near p bs k o h b =
    width-tells near p 2 (signed 32768) (λ n l. let s = stood-for 32768 n l in (near-from (signed 32768 n) s.1 s.2, ap (digits 2) (sym s.0))) bs k o h b
field-tells far p bs k o h b =
    width-tells far p 4 (signed 2147483648) (λ n l. let s = stood-for 2147483648 n l in (far_from (signed 2147483648 n) s.1 s.2, ap (digits 4) (sym s.0))) bs k o h b
field-tells mark p bs k o h b =
    let g = get_or bs (k + o) 0 in
    by-there bs (k + (o + 1)) _ (Tells p mark bs k o)
    (λ l. by-pick (eqb g 0) _ _ (Tells p mark bs k o)
    (λ t. byte-got mark p bs k o l false tt (ap (λ v. v ∷ []) (eqb-true g 0 t)))
    (λ t0. by-pick (eqb g 1) _ _ (Tells p mark bs k o)
    (λ t. byte-got mark p bs k o l true tt (ap (λ v. v ∷ []) (eqb-true g 1 t)))
    (λ t1. (λ _. wrong p mark bs k o l false tt (λ v s u fit e. no-mark g v (heads g (marked v) s u e) (eqb-false g 0 t0) (eqb-false g 1 t1))))))
    (λ l. (λ _. missing p mark bs k o h false (0 ∷ []) tt (none_left bs k o 0 l)))
  where
    no-mark : (g : ℕ) (v : Bool) → g ≡ marked v → (g ≡ 0 → ⊥) → (g ≡ 1 → ⊥) → ⊥
    no-mark g true e a c = c e
    no-mark g false e a c = a e
field-tells (only c) p bs k o h b =
    let g = get_or bs (k + o) 0 in
    by-there bs (k + (o + 1)) _ (Tells p (only c) bs k o)
    (λ l. by-pick (eqb g c) _ _ (Tells p (only c) bs k o)
    (λ t. byte-got (only c) p bs k o l tt tt (ap (λ v. v ∷ []) (eqb-true g c t)))
    (λ t. (λ _. wrong p (only c) bs k o l tt tt (λ v s u fit e. eqb-false g c t (heads g c s u e)))))
    (λ l. (λ _. missing p (only c) bs k o h tt (c ∷ []) tt (none_left bs k o c l)))
field-tells (row w) p bs k o h b =
    by-there bs (k + (o + 2)) _ (Tells p (row w) bs k o)
    (λ l. by-there bs (k + (o + 2 + w * number 2 (drop (k + o) bs))) _ (Tells p (row w) bs k o)
    (λ m. row-got p bs k o w l m b)
    (λ m. (λ _. elements-missing p bs k o w h b l m)))
    (λ l. (λ _. count-missing p bs k o w h b l))
