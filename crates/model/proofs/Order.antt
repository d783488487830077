-- The order of windows: how often a number stands in it, and what taking one out leaves.
use Rattle.std.proofs.Common.{◌≡◌, ℕ, zero, suc, ◌+◌, eqb, List, [], ◌∷◌, ◌++◌, sym, refl, ap, ◌∙◌, add_assoc, zero-add, arith, eq-eqb, eqb-true}
use borrow.Author.Tests.{eqb-false}
use Rattle.model.specs.Basics.{pick}
use Rattle.model.specs.Desk.{without}
use Rattle.model.specs.Promise.{times, one}
use Rattle.model.proofs.Picks.{by-pick}

pub times-cons : (n m : ℕ) (ms : List ℕ) → times n (m ∷ ms) ≡ one n m + times n ms
unfolding times
times-cons n m ms = refl

pub one_same : (n : ℕ) → one n n ≡ 1
one_same zero = refl
one_same (suc n) = one_same n

pub one-other : (n m : ℕ) → (n ≡ m → ⊥) → one n m ≡ 0
one-other zero zero h = absurd (h refl)
one-other zero (suc m) h = refl
one-other (suc n) zero h = refl
one-other (suc n) (suc m) h = one-other n m (λ e. h (ap suc e))

pub times-append : (n : ℕ) (xs ys : List ℕ) → times n (xs ++ ys) ≡ times n xs + times n ys
unfolding times
times-append n [] ys = sym (zero-add (times n ys))
times-append n (x ∷ xs) ys = ap (λ k. one n x + k) (times-append n xs ys) ∙ sym (add_assoc (one n x) (times n xs) (times n ys))

pub times-single-same : (n : ℕ) → times n (n ∷ []) ≡ 1
unfolding times
times-single-same n = ap (λ k. k + 0) (one_same n)

pub times-single-other : (n m : ℕ) → (n ≡ m → ⊥) → times n (m ∷ []) ≡ 0
unfolding times
times-single-other n m h = ap (λ k. k + 0) (one-other n m h)

pub times-without-same : (n : ℕ) (o : List ℕ) → times n (without n o) ≡ 0
unfolding times without
times-without-same n [] = refl
times-without-same n (m ∷ ms) =
    by-pick (eqb n m) (without n ms) (m ∷ without n ms) (λ l. times n l ≡ 0) (λ _. times-without-same n ms)
    (λ e. let a = one-other n m (eqb-false n m e) in let b = times-without-same n ms in omega arith)

pub times-without-other : (k n : ℕ) (o : List ℕ) → (k ≡ n → ⊥) → times k (without n o) ≡ times k o
unfolding times without
times-without-other k n [] h = refl
times-without-other k n (m ∷ ms) h =
    by-pick (eqb n m) (without n ms) (m ∷ without n ms) (λ l. times k l ≡ one k m + times k ms)
    (λ e. let a = one-other k m (λ q. h (q ∙ sym (eqb-true n m e))) in let b = times-without-other k n ms h in omega arith)
    (λ _. ap (λ t. one k m + t) (times-without-other k n ms h))

pub without-append : (n : ℕ) (xs ys : List ℕ) → without n (xs ++ ys) ≡ without n xs ++ without n ys
unfolding without
without-append n [] ys = refl
without-append n (x ∷ xs) ys =
    by-pick (eqb n x) (without n xs) (x ∷ without n xs) (λ l. pick (eqb n x) (without n (xs ++ ys)) (x ∷ without n (xs ++ ys)) ≡ l ++ without n ys)
    (λ e. rw e (without-append n xs ys)) (λ e. rw e (ap (λ l. x ∷ l) (without-append n xs ys)))

pub without-twice : (n : ℕ) (xs : List ℕ) → without n (without n xs) ≡ without n xs
unfolding without
without-twice n [] = refl
without-twice n (x ∷ xs) =
    by-pick (eqb n x) (without n xs) (x ∷ without n xs) (λ l. without n l ≡ l) (λ _. without-twice n xs) (λ e. rw e (ap (λ l. x ∷ l) (without-twice n xs)))

append-none : (xs : List ℕ) → xs ++ [] ≡ xs
append-none [] = refl
append-none (x ∷ xs) = ap (λ l. x ∷ l) (append-none xs)

without-self : (n : ℕ) → without n (n ∷ []) ≡ []
unfolding without
without-self n = rw (eq-eqb n n refl)

pub without-raised : (n : ℕ) (xs : List ℕ) → without n xs ≡ without n (without n xs ++ n ∷ [])
without-raised n xs = sym (without-append n (without n xs) (n ∷ []) ∙ ap (λ l. without n (without n xs) ++ l) (without-self n) ∙ append-none (without n (without n xs)) ∙ without-twice n xs)
