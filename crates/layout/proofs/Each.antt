-- Tests of each number below another, and of each number of a list.
use Rattle.std.proofs.Common.{◌≡◌, ℕ, zero, suc, ◌<◌, Bool, true, false, ◌&&◌, List, [], ◌∷◌, ◌++◌, map, length, get_or, sym, refl, ap, ◌∙◌, inl, inr, add-one, arith}
use Rattle.std.proofs.lemmas.Bool.{cases_eq, and_parts, and_from, and_left, and_right}
use Rattle.std.specs.List.{range_with_len, list_all}
use Rattle.std.proofs.lemmas.List.FromFn.{map-range_with_len_more}
use Rattle.std.proofs.lemmas.List.Folds.{list_all-append, list_all-map}
use Rattle.layout.specs.Head.{each, all_of}

pub each-true : (f : ℕ → Bool) (n : ℕ) → ((k : ℕ) → k < n → f k ≡ true) → each f n ≡ true
each-true f zero h = refl
each-true f (suc n) h = and_from (f n) (each f n) (h n (omega arith)) (each-true f n (λ k l. h k (omega arith)))

pub each_at : (f : ℕ → Bool) (n : ℕ) → each f n ≡ true → (k : ℕ) → k < n → f k ≡ true
each_at f zero e k h = absurd (omega arith)
each_at f (suc n) e k h =
    let p = and_parts (f n) (each f n) e in
    elim (cases_eq k n) [ inl q ↦ ap f q ∙ p.0 | inr q ↦ each_at f n p.1 k (omega arith) ]

pub each_same : (f g : ℕ → Bool) (n : ℕ) → ((k : ℕ) → k < n → f k ≡ g k) → each f n ≡ each g n
each_same f g zero h = refl
each_same f g (suc n) h = λ i. h n (omega arith) i && each_same f g n (λ k l. h k (omega arith)) i

-- the same test of each number of a range
pub each-range : (f : ℕ → Bool) (n : ℕ) → list_all f (range_with_len 0 n) ≡ each f n
each-range f zero = refl
each-range f (suc n) =
    sym (list_all-map (λ (b : Bool). b) f (range_with_len 0 (suc n))) ∙ ap (λ m. list_all (λ (b : Bool). b) (map f (range_with_len 0 m))) (sym (add-one n)) ∙ ap (list_all (λ b. b)) (map-range_with_len_more f 0 n n (omega arith))
    ∙ list_all-append (λ b. b) (map f (range_with_len 0 n)) (f n ∷ [])
    ∙ ap (λ b. b && (f n && true)) (list_all-map (λ b. b) f (range_with_len 0 n) ∙ each-range f n) ∙ swap (each f n) (f n)
  where
    swap : (a b : Bool) → (a && (b && true)) ≡ (b && a)
    swap true true = refl
    swap true false = refl
    swap false true = refl
    swap false false = refl

pub all-at : (f : ℕ → Bool) (xs : List ℕ) → all_of f xs ≡ true → (k : ℕ) → k < length xs → f (get_or xs k 0) ≡ true
all-at f [] e k h = absurd (omega arith)
all-at f (x ∷ xs) e zero h = (and_parts (f x) (all_of f xs) e).0
all-at f (x ∷ xs) e (suc k) h = all-at f xs (and_parts (f x) (all_of f xs) e).1 k (omega arith)

pub all-false : (f : ℕ → Bool) (xs : List ℕ) (k : ℕ) → k < length xs → f (get_or xs k 0) ≡ false → all_of f xs ≡ false
all-false f [] k h e = absurd (omega arith)
all-false f (x ∷ xs) zero h e = and_left (f x) (all_of f xs) e
all-false f (x ∷ xs) (suc k) h e = and_right (f x) (all_of f xs) (all-false f xs k (omega arith) e)

pub all_push : (f : ℕ → Bool) (xs : List ℕ) (x : ℕ) → all_of f xs ≡ true → f x ≡ true → all_of f (xs ++ x ∷ []) ≡ true
all_push f [] x e h = and_from (f x) true h refl
all_push f (y ∷ xs) x e h =
    let p = and_parts (f y) (all_of f xs) e in and_from (f y) (all_of f (xs ++ x ∷ [])) p.0 (all_push f xs x p.1 h)
