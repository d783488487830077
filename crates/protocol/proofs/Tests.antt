-- What a reader's answer tells of the tests that it went through.
use Rattle.std.proofs.Common.{◌≡◌, ℕ, ◌+◌, ◌-◌, ◌<◌, ◌≤◌, Bool, true, false, ltb, List, ◌∷◌, ◌++◌, length, get_or, take, drop, Ok, Err, sym, refl, ap, ◌∙◌, arith}
use Rattle.std.proofs.lemmas.Bool.{ltb-true, ltb-false, le-ltb}
use Rattle.std.proofs.lemmas.List.{length-append, length-drop, get_or-drop, drop-drop, drop_at, drop_more, take-append-drop, take_at}
use Rattle.model.specs.Basics.{pick}
use Rattle.protocol.specs.Fields.{Found, there}

pub ok_same : {A : Type 0} (x y : A × ℕ) → ◌≡◌ {A = Found A} (Ok x) (Ok y) → x ≡ y
ok_same x y e = cc

pub err-same : {A : Type 0} (i j : ℕ) → ◌≡◌ {A = Found A} (Err i) (Err j) → i ≡ j
err-same i j e = cc

pub ok-not-err : {A : Type 0} (x : A × ℕ) (j : ℕ) → ◌≡◌ {A = Found A} (Ok x) (Err j) → ⊥
ok-not-err x j e = let z : ◌≡◌ {A = ℕ} 0 1 = cc in omega arith

pub err-not-ok : {A : Type 0} (x : A × ℕ) (j : ℕ) → ◌≡◌ {A = Found A} (Err j) (Ok x) → ⊥
err-not-ok x j e = ok-not-err x j (sym e)

pub by-pick {ℓ} : {A : Type 0} (b : Bool) (x y : A) (P : A → Type ℓ) → (b ≡ true → P x) → (b ≡ false → P y) → P (pick b x y)
by-pick true x y P f g = f refl
by-pick false x y P f g = g refl

-- the bytes are there
pub there-ok : {A : Type 0} (bs : List ℕ) (to : ℕ) (r : Found A) → to ≤ length bs → there bs to r ≡ r
there-ok bs to r h = rw (le-ltb (length bs) to h)

-- what follows from an answer, whatever it is: the bytes are there or the fault is at the length
pub by-there : {A : Type 0} (bs : List ℕ) (to : ℕ) (r : Found A) (P : Found A → Type 0) → (to ≤ length bs → P r) → (length bs < to → P (Err (length bs))) → P (there bs to r)
by-there bs to r P f g =
    by-pick (ltb (length bs) to) (Err (length bs)) r P (λ e. g (ltb-true (length bs) to e)) (λ e. f (ltb-false (length bs) to e))

-- a row's end, and what stands at a place of it
pub ends-within : (bs xs t : List ℕ) (i : ℕ) → i ≤ length bs → drop i bs ≡ xs ++ t → i + length xs ≤ length bs
ends-within bs xs t i h e = omega (arith, sym (length-drop i bs) ∙ ap length e ∙ length-append xs t)

pub goes_on : (bs xs t : List ℕ) (i n : ℕ) → n ≡ length xs → drop i bs ≡ xs ++ t → drop (i + n) bs ≡ t
goes_on bs xs t i n l e = sym (drop-drop n i bs) ∙ ap (drop n) e ∙ drop_at xs t n (sym l)

pub stands : (bs t : List ℕ) (v i : ℕ) → drop i bs ≡ v ∷ t → get_or bs i 0 ≡ v
stands bs t v i e = let z : i + 0 ≡ i = omega arith in sym (ap (λ j. get_or bs j 0) z) ∙ sym (get_or-drop i bs 0 0) ∙ ap (λ l. get_or l 0 0) e

pub one_more : (bs : List ℕ) (i j : ℕ) → i < length bs → j ≡ i + 1 → drop i bs ≡ get_or bs i 0 ∷ drop j bs
one_more bs i j h e = drop_more bs i 0 h ∙ ap (λ n. get_or bs i 0 ∷ drop n bs) (sym e)

pub some_more : (bs : List ℕ) (i w j : ℕ) → j ≡ i + w → drop i bs ≡ take w (drop i bs) ++ drop j bs
some_more bs i w j e = sym (take-append-drop w (drop i bs)) ∙ ap (λ t. take w (drop i bs) ++ t) (drop-drop w i bs ∙ ap (λ n. drop n bs) (sym e))

-- an answer that is no find is a fault
pub answer : {A : Type 0} (x : Found A) → ((r : A × ℕ) → x ≡ Ok r → ⊥) → (j : ℕ) × (x ≡ Err j)
answer (Ok r) f = absurd (f r refl)
answer (Err j) f = (j, refl)

-- what was read, by its ends
pub size-read : (bs xs : List ℕ) (k to : ℕ) → k < to → to ≤ length bs → drop k bs ≡ xs ++ drop to bs → take (to - k) (drop k bs) ≡ xs
size-read bs xs k to a w e =
    let l : length xs ≡ to - k = omega (arith, sym (length-drop k bs) ∙ ap length e ∙ length-append xs (drop to bs), length-drop to bs) in
    ap (take (to - k)) e ∙ take_at xs (drop to bs) (to - k) l
