-- What stands in front, before and after a change of one window.
use Rattle.std.proofs.Common.{◌≡◌, ℕ, zero, suc, Bool, true, false, eqb, ◌⊎◌, List, [], ◌∷◌, ◌++◌, ℤ, pos, ◌-ℤ◌, sym, refl, ap, ◌∙◌, subst, inl, inr, arith, eqb-true}
use lib.Dec.{eqb-suc-zero}
use lib.Signed.{mag}
use borrow.Author.Tests.{eqb-false}
use Rattle.std.proofs.lemmas.Bool.{and_parts, and_left, and_right}
use Rattle.model.specs.Basics.{pick}
use Rattle.model.specs.Desk.{Desk, Window, window, front, in_window, without}
use Rattle.model.proofs.Picks.{by-pick}

-- what is in front lies there
pub front-in : (d : Desk) (ns : List ℕ) (x y : ℤ) (n : ℕ) → front d ns x y ≡ suc n → in_window (window d n) x y ≡ true
unfolding front
front-in d [] x y n = λ e. absurd (omega arith)
front-in d (m ∷ ns) x y n =
    by-pick (eqb (front d ns x y) 0) (pick (in_window (window d m) x y) (suc m) 0) (front d ns x y) (λ r. r ≡ suc n → in_window (window d n) x y ≡ true)
    (λ _. by-pick (in_window (window d m) x y) (suc m) 0 (λ r. r ≡ suc n → in_window (window d n) x y ≡ true)
    (λ i q. let q2 : m ≡ n = omega arith in subst (λ k. in_window (window d k) x y ≡ true) q2 i) (λ _ q. absurd (omega arith)))
    (λ _ q. front-in d ns x y n q)

pub in-there : (w : Window) (x y : ℤ) → in_window w x y ≡ true → w.there ≡ true
unfolding in_window
in-there w x y e = (and_parts _ _ (and_parts _ _ e).0).0

pub front-there : (d : Desk) (ns : List ℕ) (x y : ℤ) (n : ℕ) → front d ns x y ≡ suc n → (window d n).there ≡ true
front-there d ns x y n e = in-there (window d n) x y (front-in d ns x y n e)

-- the dot of a window that lies at a dot of the screen
abbrev pub seen_of : Window → ℕ → ℕ → ℕ
seen_of w i j = w.dots (mag (pos i -ℤ w.x)) (mag (pos j -ℤ w.y))

-- one more window behind
abbrev pub over : ℕ → Bool → ℕ → ℕ
over f b n = pick (eqb f 0) (pick b (suc n) 0) f

pub front-cons : (d : Desk) (n : ℕ) (ns : List ℕ) (x y : ℤ) → front d (n ∷ ns) x y ≡ over (front d ns x y) (in_window (window d n) x y) n
unfolding front
front-cons d n ns x y = refl

-- only where windows lie counts
pub front_same : (d d' : Desk) (ns : List ℕ) (x y : ℤ) → ((m : ℕ) → in_window (window d m) x y ≡ in_window (window d' m) x y) → front d ns x y ≡ front d' ns x y
unfolding front
front_same d d' [] x y h = refl
front_same d d' (n ∷ ns) x y h = ap (λ f. over f (in_window (window d n) x y) n) (front_same d d' ns x y h) ∙ ap (λ b. over (front d' ns x y) b n) (h n)

-- a window that isn't in front may be left out
over-some : (f n : ℕ) (b : Bool) (m : ℕ) → f ≡ suc m → over f b n ≡ suc m
over-some f n b m e = rw (e, eqb-suc-zero m)

over-cases : (f : ℕ) (b : Bool) (n : ℕ) → (over f b n ≡ suc n) ⊎ (over f b n ≡ f)
over-cases zero true n = inl refl
over-cases zero false n = inr refl
over-cases (suc f) b n = inr (over-some (suc f) n b f refl)

over-out : (f n : ℕ) (b : Bool) → b ≡ false → over f b n ≡ f
over-out zero n b e = rw e
over-out (suc f) n b e = over-some (suc f) n b f refl

pub front-without : (d : Desk) (n : ℕ) (ns : List ℕ) (x y : ℤ) → (front d ns x y ≡ suc n) ⊎ (front d ns x y ≡ front d (without n ns) x y)
unfolding front without
front-without d n [] x y = inr refl
front-without d n (m ∷ ns) x y =
    elim (front-without d n ns x y) [
      | inl e ↦ inl (over-some (front d ns x y) m (in_window (window d m) x y) n e)
      | inr e ↦
          by-pick (eqb n m) (without n ns) (m ∷ without n ns)
          (λ l. (over (front d ns x y) (in_window (window d m) x y) m ≡ suc n) ⊎ (over (front d ns x y) (in_window (window d m) x y) m ≡ front d l x y))
          (λ q. elim (over-cases (front d ns x y) (in_window (window d m) x y) m) [ inl r ↦ inl (r ∙ ap suc (sym (eqb-true n m q))) | inr r ↦ inr (r ∙ e) ])
          (λ _. inr (ap (λ f. over f (in_window (window d m) x y) m) e))
    ]

-- without a window, only the others count
pub front-off : (d d' : Desk) (n : ℕ) (ns : List ℕ) (x y : ℤ) → ((m : ℕ) → (m ≡ n → ⊥) → window d m ≡ window d' m) → front d (without n ns) x y ≡ front d' (without n ns) x y
unfolding front without
front-off d d' n [] x y h = refl
front-off d d' n (m ∷ ns) x y h =
    by-pick (eqb n m) (without n ns) (m ∷ without n ns) (λ l. front d l x y ≡ front d' l x y) (λ _. front-off d d' n ns x y h)
    (λ q.
    ap (λ f. over f (in_window (window d m) x y) m) (front-off d d' n ns x y h) ∙
    ap (λ w. over (front d' (without n ns) x y) (in_window w x y) m) (h m (λ e. eqb-false n m q (sym e))))

-- one window changes, or its place in the order: what is in front is the same, or it was that window, or it is now
pub front-subject : (d d' : Desk) (n : ℕ) (o o' : List ℕ) (x y : ℤ) → ((m : ℕ) → (m ≡ n → ⊥) → window d m ≡ window d' m) → without n o ≡ without n o' →
    (front d o x y ≡ front d' o' x y) ⊎ ((front d o x y ≡ suc n) ⊎ (front d' o' x y ≡ suc n))
front-subject d d' n o o' x y h e =
    elim (front-without d n o x y) [
      | inl p ↦ inr (inl p)
      | inr p ↦
          elim (front-without d' n o' x y) [ inl q ↦ inr (inr q) | inr q ↦ inl (p ∙ front-off d d' n o x y h ∙ ap (λ l. front d' l x y) e ∙ sym q) ]
    ]

-- a window in front of all that isn't seen there
pub front-unseen : (d : Desk) (n : ℕ) (ns : List ℕ) (x y : ℤ) → in_window (window d n) x y ≡ false → front d (ns ++ n ∷ []) x y ≡ front d ns x y
unfolding front
front-unseen d n [] x y e = over-out 0 n (in_window (window d n) x y) e
front-unseen d n (m ∷ ns) x y e = ap (λ f. over f (in_window (window d m) x y) m) (front-unseen d n ns x y e)

-- a window is made, which isn't shown
pub unshown : (w : Window) (x y : ℤ) → w.shown ≡ false → in_window w x y ≡ false
unfolding in_window
unshown w x y e = and_left _ _ (and_right w.there w.shown e)

pub absent : (w : Window) (x y : ℤ) → w.there ≡ false → in_window w x y ≡ false
unfolding in_window
absent w x y e = and_left _ _ (and_left w.there w.shown e)
