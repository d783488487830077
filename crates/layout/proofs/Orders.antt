-- The order: numbers read one after another, and how often each stands in it.
use Rattle.std.proofs.Common.{◌≡◌, ℕ, ◌+◌, ◌<◌, ◌≤◌, Bool, true, false, ◌&&◌, eqb, ltb, List, [], ◌∷◌, ◌++◌, map, length, get_or, take, set, replicate, is_some, None, Option, sym, refl, ap, ◌∙◌, inl, inr, arith}
use Rattle.std.specs.List.{range_with_len}
use Rattle.std.proofs.lemmas.List.FromFn.{length-map-range_with_len, map-range_with_len_more}
use Rattle.std.proofs.lemmas.List.{take_more, get_or-set_same, get_or-set_other, length-set, get_or-replicate, length-replicate}
use Rattle.std.proofs.lemmas.Bool.{lt-ltb, cases_eq}
use Rattle.model.specs.Basics.{pick, bit}
use Rattle.model.specs.Promise.{times, one}
use Rattle.model.proofs.Order.{times-append, times-single-same, times-single-other, one_same, one-other}
use Rattle.stack.specs.declared.state.Window.{Window}
use Rattle.layout.specs.Head.{each, all_of, orderly}
use Rattle.layout.specs.Loads.{Tally}
use Rattle.layout.proofs.Each.{each_same, all_push}

pub order-more : (f : ℕ → ℕ) (most i n : ℕ) (o new : List ℕ) (r : Bool) → o ≡ map f (range_with_len 0 i) → i < most → r ≡ ltb (length o) most → n ≡ f i → new ≡ pick r (o ++ n ∷ []) o →
    new ≡ map f (range_with_len 0 (i + 1))
order-more f most i n o new r e h t q g =
    let l : length o ≡ i = ap length e ∙ length-map-range_with_len f 0 i in
    let b : r ≡ true = t ∙ lt-ltb (length o) most (omega arith) in
    g ∙ ap (λ x. pick x (o ++ n ∷ []) o) b ∙ ap (λ x. o ++ x ∷ []) q ∙ ap (λ us. us ++ f i ∷ []) e ∙ sym (map-range_with_len_more f 0 i i (omega arith))

one-most : (n m : ℕ) → one n m ≤ 1
one-most n m = elim (cases_eq n m) [ inl e ↦ rw (e, one_same m) (omega arith) | inr e ↦ rw (one-other n m e) (omega arith) ]

pub times-most : (n : ℕ) (xs : List ℕ) → times n xs ≤ length xs
unfolding times
times-most n [] = omega arith
times-most n (x ∷ xs) = omega (arith, one-most n x, times-most n xs)

pub tally-start : (limit : ℕ) (seen : List ℕ) → limit ≤ 255 → seen ≡ replicate 255 0 → Tally limit [] seen
unfolding times
tally-start limit seen h e =
    record {
      below = refl;
      count = λ n l. ap (λ us. get_or us n 0) e ∙ get_or-replicate {A = ℕ} 255 n 0 0 (omega arith);
      long = ap length e ∙ length-replicate {A = ℕ} 255 0;
    }

pub tally-more : (limit i n : ℕ) (o seen : List ℕ) → Tally limit (take i o) seen → i < length o → n ≡ get_or o i 0 → n < limit → limit ≤ 255 →
    Tally limit (take (i + 1) o) (set seen n (get_or seen n 0 + 1))
tally-more limit i n o seen t h e l m =
    rw (take_more o i 0 h, ← e) (record {
      below = all_push (λ k. ltb k limit) (take i o) n t.below (lt-ltb n limit l);
      count = λ k q. elim (cases_eq k n) [
        | inl z ↦ rw z (get_or-set_same seen n (get_or seen n 0 + 1) 0 (omega (arith, t.long)) ∙ omega (arith, t.count n l, times-append n (take i o) (n ∷ []), times-single-same n))
        | inr z ↦ get_or-set_other seen n k (get_or seen n 0 + 1) 0 z ∙ t.count k q ∙ omega (arith, times-append k (take i o) (n ∷ []), times-single-other k n z)
      ];
      long = length-set seen n (get_or seen n 0 + 1) ∙ t.long;
    })

-- what was counted decides whether the order is in order
pub orderly-by : (os : List (Option Window)) (o seen : List ℕ) (limit : ℕ) → Tally limit o seen → length os ≡ limit →
    each (λ n. eqb (get_or seen n 0) (bit (is_some (get_or os n None)))) limit ≡ orderly os o
orderly-by os o seen limit t e =
    rw e (rw t.below (each_same _ (λ n. eqb (times n o) (bit (is_some (get_or os n None)))) limit (λ k h. ap (λ x. eqb x (bit (is_some (get_or os k None)))) (t.count k h)) ∙ and-true _))
  where
    and-true : (b : Bool) → b ≡ (b && true)
    and-true true = refl
    and-true false = refl

pub orderly-not : (os : List (Option Window)) (o : List ℕ) (limit : ℕ) → all_of (λ n. ltb n limit) o ≡ false → length os ≡ limit → false ≡ orderly os o
orderly-not os o limit f e = rw e (rw f (and-false _))
  where
    and-false : (b : Bool) → false ≡ (b && false)
    and-false true = refl
    and-false false = refl
