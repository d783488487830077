-- Numbers and their bytes, both ways, over any width.
use Rattle.std.proofs.Common.{◌≡◌, ℕ, zero, suc, ◌+◌, ◌-◌, ◌*◌, ◌/◌, ◌%◌, ◌^◌, ◌<◌, ◌≤◌, true, List, [], ◌∷◌, ◌++◌, length, get_or, take, drop, sym, refl, ap, ◌∙◌, pow-suc, mul-zero, mul-suc, arith, take-add}
use Rattle.std.proofs.lemmas.Bool.{leb-true}
use Rattle.std.proofs.lemmas.List.{append_assoc, length-append, length-drop, get_or-drop, drop_at, drop-drop}
use Rattle.protocol.specs.Fields.{Bytes, row, spell, number, digits, numbers, all_digits}
use Rattle.protocol.specs.Meaning.{part, lies}
use Rattle.protocol.specs.declared.types.Part.{Part}

pub bytes_drop : (n : ℕ) (xs : List ℕ) → Bytes xs → Bytes (drop n xs)
bytes_drop n xs b i = rw (get_or-drop n xs i 0) (b (n + i))

pub bytes-tail : (x : ℕ) (xs : List ℕ) → Bytes (x ∷ xs) → Bytes xs
bytes-tail x xs b i = b (suc i)

pub length_digits : (w v : ℕ) → length (digits w v) ≡ w
length_digits zero v = refl
length_digits (suc w) v = ap suc (length_digits w (v / 256))

-- what is spelled is read
pub number_digits : (w v : ℕ) (t : List ℕ) → v < 256 ^ w → number w (digits w v ++ t) ≡ v
unfolding number
number_digits zero v t h = omega arith
number_digits (suc w) v t h =
    let l : v / 256 < 256 ^ w = omega (arith, pow-suc 256 w) in
    let e = number_digits w (v / 256) t l in
    omega arith

-- what is read is spelled so
pub digits_number : (w : ℕ) (xs : List ℕ) → w ≤ length xs → Bytes xs → digits w (number w xs) ≡ take w xs
unfolding number
digits_number zero xs h b = refl
digits_number (suc w) [] h b = absurd (let z : ⊥ = omega arith in z)
digits_number (suc w) (x ∷ xs) h b =
    let l : x < 256 = b 0 in
    let e : (x + 256 * number w xs) % 256 ≡ x = omega arith in
    let f : (x + 256 * number w xs) / 256 ≡ number w xs = omega arith in
    rw (e, f) (ap (λ t. x ∷ t) (digits_number w xs (omega arith) (bytes-tail x xs b)))

pub number_small : (w : ℕ) (xs : List ℕ) → Bytes xs → number w xs < 256 ^ w
unfolding number
number_small zero xs b = omega (arith)
number_small (suc w) [] b = omega (arith, pow-suc 256 w, number_small w [] b)
number_small (suc w) (x ∷ xs) b =
    let l : x < 256 = b 0 in
    omega (arith, pow-suc 256 w, number_small w xs (bytes-tail x xs b))

pub length-numbers : (w n : ℕ) (xs : List ℕ) → length (numbers w n xs) ≡ n
unfolding numbers
length-numbers w zero xs = refl
length-numbers w (suc n) xs = ap suc (length-numbers w n (drop w xs))

pub numbers-small : (w n : ℕ) (xs : List ℕ) → Bytes xs → (k : ℕ) → get_or (numbers w n xs) k 0 < 256 ^ w
unfolding numbers
numbers-small w zero xs b k = omega (arith, number_small w [] (λ i. omega arith))
numbers-small w (suc n) xs b zero = number_small w xs b
numbers-small w (suc n) xs b (suc k) = numbers-small w n (drop w xs) (bytes_drop w xs b) k

-- one of a row
pub getD-numbers : (w n : ℕ) (xs : List ℕ) (k : ℕ) → k < n → get_or (numbers w n xs) k 0 ≡ number w (drop (w * k) xs)
unfolding numbers
getD-numbers w zero xs k h = absurd (let z : ⊥ = omega arith in z)
getD-numbers w (suc n) xs zero h = rw (mul-zero w)
getD-numbers w (suc n) xs (suc k) h =
    let e : w + w * k ≡ w * suc k = omega (arith, mul-suc w k) in
    getD-numbers w n (drop w xs) k (omega arith) ∙ ap (number w) (drop-drop (w * k) w xs ∙ ap (λ i. drop i xs) e)

pub length-all-digits : (w : ℕ) (vs : List ℕ) → length (all_digits w vs) ≡ w * length vs
unfolding all_digits
length-all-digits w [] = sym (mul-zero w)
length-all-digits w (v ∷ vs) =
    simp (length-append, length_digits) (omega (arith, length-all-digits w vs, mul-suc w (length vs)))

pub numbers-all-digits : (w : ℕ) (vs t : List ℕ) → ((k : ℕ) → get_or vs k 0 < 256 ^ w) → numbers w (length vs) (all_digits w vs ++ t) ≡ vs
unfolding numbers all_digits
numbers-all-digits w [] t h = refl
numbers-all-digits w (v ∷ vs) t h =
    let rest = all_digits w vs ++ t in
    let a : (digits w v ++ all_digits w vs) ++ t ≡ digits w v ++ rest = append_assoc (digits w v) (all_digits w vs) t in
    let d : drop w (digits w v ++ rest) ≡ rest = drop_at (digits w v) rest w (length_digits w v) in
    rw (a, number_digits w v rest (h 0), d) (ap (λ l. v ∷ l) (numbers-all-digits w vs t (λ k. h (suc k))))

pub all-digits-numbers : (w n : ℕ) (xs : List ℕ) → w * n ≤ length xs → Bytes xs → all_digits w (numbers w n xs) ≡ take (w * n) xs
unfolding numbers all_digits
all-digits-numbers w zero xs h b = rw (mul-zero w)
all-digits-numbers w (suc n) xs h b =
    let m = mul-suc w n in
    let e : w * suc n ≡ w + w * n = omega arith in
    let l : w * n ≤ length (drop w xs) = simp length-drop (omega arith) in
    rw (e, take-add w (w * n) xs, digits_number w xs (omega arith) b, all-digits-numbers w n (drop w xs) l (bytes_drop w xs b))

-- a head that ends with a row's count, and then the bytes that the row points to
pub row-bytes : (w : ℕ) (bs : List ℕ) (q : Part) (head before : List ℕ) → Bytes bs → lies w bs q ≡ true → head ≡ before ++ digits 2 q.count →
    head ++ take (q.from + w * q.count - q.from) (drop q.from bs) ≡ before ++ spell (row w) (part w bs q)
row-bytes w bs q head before b h e =
    let xs = drop q.from bs in
    let vs = numbers w q.count xs in
    let n : q.from + w * q.count - q.from ≡ w * q.count = omega arith in
    let l : w * q.count ≤ length xs = simp length-drop (omega (arith, leb-true (q.from + w * q.count) (length bs) h)) in
    let d : take (q.from + w * q.count - q.from) xs ≡ all_digits w vs = ap (λ m. take m xs) n ∙ sym (all-digits-numbers w q.count xs l (bytes_drop q.from bs b)) in
    let k : digits 2 q.count ≡ digits 2 (length vs) = ap (digits 2) (sym (length-numbers w q.count xs)) in
    ap (λ t. t ++ take (q.from + w * q.count - q.from) xs) (e ∙ ap (λ t. before ++ t) k)
    ∙ ap (λ t. (before ++ digits 2 (length vs)) ++ t) d
    ∙ append_assoc before (digits 2 (length vs)) (all_digits w vs)

-- a row of single bytes is the bytes themselves
pub numbers-one : (n : ℕ) (xs : List ℕ) → n ≤ length xs → numbers 1 n xs ≡ take n xs
unfolding numbers number
numbers-one zero xs h = refl
numbers-one (suc n) [] h = absurd (let z : ⊥ = omega arith in z)
numbers-one (suc n) (x ∷ xs) h =
    let e : x + 256 * 0 ≡ x = omega arith in
    ap (λ v. v ∷ numbers 1 n xs) e ∙ ap (λ t. x ∷ t) (numbers-one n xs (omega arith))
