-- The window in front at a place: how it hangs on the windows and on the order, and the step of a search from the front.
use Rattle.std.proofs.Common.{◌≡◌, ℕ, suc, ◌+◌, ◌<◌, Bool, true, false, ◌&&◌, eqb, List, [], ◌∷◌, ◌++◌, length, get_or, drop, reverse, ℤ, pos, ◌+ℤ◌, ◌-ℤ◌, Some, None, Option, sym, refl, ap, ◌∙◌, inl, inr, arith}
use lib.Signed.{le_z, lt_z, mag}
use Rattle.std.proofs.lemmas.List.{at_drop_more, at_drop_all, reverse-append}
use Rattle.std.proofs.lemmas.Bool.{cases_eq, eq-eqb, ne_eqb, and_parts}
use Rattle.std.proofs.lemmas.Bool.Decides.{nat_tests}
use Rattle.model.specs.Basics.{pick}
use Rattle.model.specs.Desk as desk
use Rattle.model.specs.Desk.{Desk, front, in_window, window, dot, dot_of}
use Rattle.std.specs.Option.{MatchOption, IsSomeAnd}
use Rattle.stack.specs.declared.state.Window.{Window}
use Rattle.stack.specs.declared.state.Stack.{Stack}
use Rattle.stack.specs.View.{windows_of, order_of, numbered}
use Rattle.stack.specs.Found.{Found}

-- it looks at windows only
pub front_same : (d e : Desk) (o : List ℕ) (x y : ℤ) → d.windows ≡ e.windows → front d o x y ≡ front e o x y
unfolding front window
front_same d e [] x y h = refl
front_same d e (n ∷ ns) x y h = rw (h, front_same d e ns x y h)

-- one more in front
pub front-push : (d : Desk) (xs : List ℕ) (n : ℕ) (x y : ℤ) → front d (xs ++ n ∷ []) x y ≡ pick (in_window (window d n) x y) (suc n) (front d xs x y)
unfolding front
front-push d [] n x y = refl
front-push d (m ∷ ms) n x y = by (in_window (window d n) x y) (front-push d ms n x y)
  where
    by : (b : Bool) → front d (ms ++ n ∷ []) x y ≡ pick b (suc n) (front d ms x y) →
        pick (eqb (front d (ms ++ n ∷ []) x y) 0) (pick (in_window (window d m) x y) (suc m) 0) (front d (ms ++ n ∷ []) x y) ≡ pick b (suc n) (pick (eqb (front d ms x y) 0) (pick (in_window (window d m) x y) (suc m) 0) (front d ms x y))
    by true e = grind (arith, nat_tests)
    by false e = rw e refl

-- the place lies in it
pub front-in : (d : Desk) (o : List ℕ) (x y : ℤ) (n : ℕ) → front d o x y ≡ suc n → in_window (window d n) x y ≡ true
unfolding front
front-in d [] x y n e = absurd (omega arith)
front-in d (m ∷ ms) x y n e =
    elim (cases_eq (front d ms x y) 0) [
      | inl z ↦ go (in_window (window d m) x y) refl (rw (eq-eqb (front d ms x y) 0 z) at e)
      | inr ne ↦ front-in d ms x y n (rw (ne_eqb (front d ms x y) 0 ne) at e)
    ]
  where
    go : (b : Bool) → in_window (window d m) x y ≡ b → pick b (suc m) 0 ≡ suc n → in_window (window d n) x y ≡ true
    go true f g = let h : n ≡ m = omega arith in rw h f
    go false f g = absurd (omega arith)

-- a search from the front: the numbers that are left at the place i, by the one that stands there, whose window is w
pub front-turn : (d : Desk) (o : List ℕ) (i n : ℕ) (x y : ℤ) (w : desk.Window) (b : Bool) → (i < length (reverse o)) × (n ≡ get_or (reverse o) i n) →
    w ≡ window d n → b ≡ in_window w x y → front d (reverse (drop i (reverse o))) x y ≡ pick b (suc n) (front d (reverse (drop (i + 1) (reverse o))) x y)
front-turn d o i n x y w b h e f =
    let rest = drop (i + 1) (reverse o) in
    at_drop_more (λ ns. front d (reverse ns) x y) (reverse o) i n h.0 ∙ ap (λ m. front d (reverse (m ∷ rest)) x y) (sym h.1)
    ∙ ap (λ ns. front d ns x y) (reverse-append (n ∷ []) rest) ∙ rw (f, e) (front-push d (reverse rest) n x y)

-- none is left
pub front-end : (d : Desk) (o : List ℕ) (i : ℕ) (x y : ℤ) → i ≡ length (reverse o) → front d (reverse (drop i (reverse o))) x y ≡ 0
unfolding front
front-end d o i x y e = at_drop_all (λ ns. front d (reverse ns) x y) (reverse o) i (omega arith)

-- a place that lies in a window lies between its edges
pub record Lies (w : desk.Window) (x y : ℤ) : Type 0 where
  pub there : w.there ≡ true
  pub shown : w.shown ≡ true
  pub left : le_z w.x x ≡ true
  pub right : lt_z x (w.x +ℤ pos w.wide) ≡ true
  pub top : le_z w.y y ≡ true
  pub low : lt_z y (w.y +ℤ pos w.high) ≡ true

pub lies : (w : desk.Window) (x y : ℤ) → in_window w x y ≡ true → Lies w x y
unfolding in_window
lies w x y e =
    let t = and_parts (w.there && w.shown) _ e in
    let s = and_parts _ _ t.0 in
    let a = and_parts _ _ t.1 in
    let h = and_parts _ _ a.0 in
    let v = and_parts _ _ a.1 in
    record { there = s.0; shown = s.1; left = h.0; right = h.1; top = v.0; low = v.1 }

-- so the window in front is there
pub front-there : (d : Desk) (o : List ℕ) (x y : ℤ) (n : ℕ) → front d o x y ≡ suc n → (window d n).there ≡ true
front-there d o x y n e = (lies (window d n) x y (front-in d o x y n e)).there

-- the dot that is seen, by the window in front
pub dot-back : (d : Desk) (i j : ℕ) → front d d.order (pos i) (pos j) ≡ 0 → dot d i j ≡ 0
unfolding dot dot_of
dot-back d i j e = rw e

pub dot-front : (d : Desk) (i j n : ℕ) → front d d.order (pos i) (pos j) ≡ suc n → dot d i j ≡ (window d n).dots (mag (pos i -ℤ (window d n).x)) (mag (pos j -ℤ (window d n).y))
unfolding dot dot_of
dot-front d i j n e = rw e

-- a window's number, where one was found
pub numbered-by : (s : Stack) (x y : ℤ) (o : Option (ℕ × Window)) (r : Option ℕ) (makes : ℕ × Window → ℕ → Type 0) → Found s x y o →
    MatchOption o (r ≡ None) (λ f. IsSomeAnd r (makes f)) → ((f : ℕ × Window) (n : ℕ) → makes f n → n ≡ f.0) →
    (d : Desk) (p : List ℕ) → d.windows ≡ windows_of s p → numbered r ≡ front d (order_of s) x y
numbered-by s x y None r makes h m t d p e = rw m (sym (h d p e))
numbered-by s x y (Some f) (Some n) makes h m t d p e = ap suc (t f n m) ∙ sym (h.front d p e)
numbered-by s x y (Some f) None makes h m t d p e = absurd m
