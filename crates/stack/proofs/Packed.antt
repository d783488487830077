-- Windows whose pictures are packed: what is seen of all of them as one is made, closed or painted, and the pictures' memory changes with it.
use Rattle.std.proofs.Common.{◌≡◌, ℕ, zero, suc, ◌+◌, ◌*◌, ◌<◌, ◌≤◌, true, ◌⊎◌, List, [], ◌∷◌, map, length, get_or, set, is_some, Some, None, Option, sym, refl, ap, ◌∙◌, subst, inl, inr, add-zero, mul_comm, arith}
use Rattle.std.proofs.lemmas.Bool.{both_ways}
use Rattle.model.specs.Desk.{nothing, area, painted}
use Rattle.model.proofs.Boxes.{place-below}
use Rattle.stack.specs.declared.state.Window.{Window}
use Rattle.stack.specs.View.{view, begun, size_of, packed, dots_used}
use Rattle.stack.specs.Packed.{Packed, Begins, fresh}
use Rattle.stack.proofs.Packing.{ending}
use Rattle.stack.proofs.Pictures.{view-begun, view-painted}

begins-by : (at : ℕ) (o u : Option Window) → o ≡ u → Begins at o → Begins at u
begins-by at o u e b = subst (Begins at) e b

-- what packing makes is packed, and packing it again leaves it
pub packed-is : (at : ℕ) (os : List (Option Window)) → Packed at (packed at os)
packed-is at [] = tt
packed-is at (None ∷ os) = (tt, packed-is (at + 0) os)
packed-is at (Some w ∷ os) = (refl, packed-is (at + w.wide * w.high) os)

begun-same : (at : ℕ) (o : Option Window) → Begins at o → begun at o ≡ o
begun-same at None e = refl
begun-same at (Some w) e = ap (λ k. begun k (Some w)) (sym e)

pub packed-same : (at : ℕ) (os : List (Option Window)) → Packed at os → packed at os ≡ os
packed-same at [] h = refl
packed-same at (o ∷ os) h = rw (begun-same at o h.0, packed-same (at + size_of o) os h.1)

-- a window is written with its picture where it was and of the same size
pub packed-set : (at n : ℕ) (os : List (Option Window)) (w v : Window) → Packed at os → get_or os n None ≡ Some w → v.at ≡ w.at → v.wide * v.high ≡ w.wide * w.high → Packed at (set os n (Some v))
packed-set at n [] w v h e a s = tt
packed-set at zero (o ∷ os) w v h e a s = (a ∙ begins-by at o (Some w) e h.0, subst (λ k. Packed (at + k) os) (ap size_of e ∙ sym s) h.1)
packed-set at (suc n) (o ∷ os) w v h e a s = (h.0, packed-set (at + size_of o) n os w v h.1 e a s)

-- where a window's picture begins
pub begins-at : (at n : ℕ) (os : List (Option Window)) (w : Window) → Packed at os → get_or os n None ≡ Some w → w.at ≡ ending n at os
begins-at at n [] w h e = absurd (both_ways _ refl (ap is_some e))
begins-at at zero (o ∷ os) w h e = begins-by at o (Some w) e h.0
begins-at at (suc n) (o ∷ os) w h e = begins-at (at + size_of o) n os w h.1 e

-- the places of the pictures
ending-from : (n at : ℕ) (os : List (Option Window)) → at ≤ ending n at os
ending-from zero at os = omega arith
ending-from (suc n) at [] = omega arith
ending-from (suc n) at (o ∷ os) = let h = ending-from n (at + size_of o) os in omega arith

pub ending-up : (n at : ℕ) (os : List (Option Window)) → ending n at os ≤ ending (length os) at os
ending-up zero at [] = omega arith
ending-up zero at (o ∷ os) = ending-from (suc (length os)) at (o ∷ os)
ending-up (suc n) at [] = omega arith
ending-up (suc n) at (o ∷ os) = ending-up n (at + size_of o) os

-- where all end: as many dots as the pictures have
size-view : (p : List ℕ) (o : Option Window) → dots_used (view p o) ≡ size_of o
size-view p None = refl
size-view p (Some w) = refl

pub ending-area : (p : List ℕ) (at : ℕ) (os : List (Option Window)) → ending (length os) at os ≡ at + area (map (view p) os)
unfolding area
ending-area p at [] = sym (add-zero at)
ending-area p at (o ∷ os) = ending-area p (at + size_of o) os ∙ (let h = size-view p o in omega arith)

-- the picture ends before those of the windows behind it begin
pub ending-next : (n at : ℕ) (os : List (Option Window)) → ending n at os + size_of (get_or os n None) ≤ ending (length os) at os
ending-next zero at [] = omega arith
ending-next zero at (o ∷ os) = ending-from (length os) (at + size_of o) os
ending-next (suc n) at [] = omega arith
ending-next (suc n) at (o ∷ os) = ending-next n (at + size_of o) os

-- a window whose picture lies at one place in p and at another in q
moved_view : (p q : List ℕ) (at to : ℕ) (o : Option Window) → ((k : ℕ) → k < size_of o → get_or q (to + k) 0 ≡ get_or p (at + k) 0) → view q (begun to o) ≡ view p (begun at o)
moved_view p q at to None h = refl
moved_view p q at to (Some w) h =
    view-begun p q to (record { owner = w.owner; shown = w.shown; x = w.x; y = w.y; wide = w.wide; high = w.high; at = at })
    (λ i j a b.
    let l = place-below w.wide w.high j i a b in
    let m = mul_comm w.wide w.high in
    let r : to + j * w.wide + i ≡ to + (j * w.wide + i) = omega arith in
    let s : at + j * w.wide + i ≡ at + (j * w.wide + i) = omega arith in
    ap (λ k. get_or q k 0) r ∙ h (j * w.wide + i) (omega arith) ∙ ap (λ k. get_or p k 0) (sym s))

-- all of them
moved-views : (p q : List ℕ) (at to : ℕ) (os : List (Option Window)) → ((k : ℕ) → at + k < ending (length os) at os → get_or q (to + k) 0 ≡ get_or p (at + k) 0) →
    map (view q) (packed to os) ≡ map (view p) (packed at os)
moved-views p q at to [] h = refl
moved-views p q at to (o ∷ os) h =
    let l = ending-from (length os) (at + size_of o) os in
    let a = moved_view p q at to o (λ k b. h k (omega arith)) in
    let b = moved-views p q (at + size_of o) (to + size_of o) os
    (λ k c.
    let r : to + size_of o + k ≡ to + (size_of o + k) = omega arith in
    let s : at + size_of o + k ≡ at + (size_of o + k) = omega arith in
    ap (λ m. get_or q m 0) r ∙ h (size_of o + k) (omega arith) ∙ ap (λ m. get_or p m 0) (sym s)) in
    rw (a, b)

same_head : (p q : List ℕ) (at : ℕ) (o : Option Window) (e : ℕ) → at + size_of o ≤ e → ((k : ℕ) → k < e → get_or q k 0 ≡ get_or p k 0) → view q (begun at o) ≡ view p (begun at o)
same_head p q at o e h f = moved_view p q at at o (λ k b. f (at + k) (omega arith))

-- a picture of 0
fresh-view : (q : List ℕ) (at : ℕ) (w : Window) → ((k : ℕ) → k < w.wide * w.high → get_or q (at + k) 0 ≡ 0) → view q (begun at (Some w)) ≡ fresh w
unfolding painted
fresh-view q at w h =
    view-painted q q (record { owner = w.owner; shown = w.shown; x = w.x; y = w.y; wide = w.wide; high = w.high; at = at }) (λ i j. 0)
    (λ i j a b.
    let l = place-below w.wide w.high j i a b in
    let m = mul_comm w.wide w.high in
    let r : at + j * w.wide + i ≡ at + (j * w.wide + i) = omega arith in
    ap (λ k. get_or q k 0) r ∙ h (j * w.wide + i) (omega arith))
    (λ i j _. refl)

-- a window is made at the number n, which has none: its picture is 0, and those behind it move up
pub made-views : (p q : List ℕ) (n at : ℕ) (os : List (Option Window)) (w : Window) → get_or os n None ≡ None → n < length os →
    ((k : ℕ) → k < ending n at os → get_or q k 0 ≡ get_or p k 0) →
    ((k : ℕ) → k < w.wide * w.high → get_or q (ending n at os + k) 0 ≡ 0) →
    ((k : ℕ) → ending n at os + k < ending (length os) at os → get_or q (ending n at os + w.wide * w.high + k) 0 ≡ get_or p (ending n at os + k) 0) →
    map (view q) (packed at (set os n (Some w))) ≡ set (map (view p) (packed at os)) n (fresh w)
made-views p q n at [] w e h f g t = absurd (omega arith)
made-views p q zero at (Some v ∷ os) w e h f g t = absurd (both_ways true (ap is_some e) refl)
made-views p q zero at (None ∷ os) w e h f g t =
    let a = fresh-view q at w g in
    let b = moved-views p q (at + 0) (at + w.wide * w.high) os (λ k c. t' k c) in
    rw (a, b)
  where
    t' : (k : ℕ) → at + 0 + k < ending (length os) (at + 0) os → get_or q (at + w.wide * w.high + k) 0 ≡ get_or p (at + 0 + k) 0
    t' k c = let r : at + 0 + k ≡ at + k = omega arith in t k (omega arith) ∙ ap (λ m. get_or p m 0) (sym r)
made-views p q (suc n) at (o ∷ os) w e h f g t =
    let l = ending-from n (at + size_of o) os in
    let a = same_head p q at o (ending n (at + size_of o) os) l f in
    let b = made-views p q n (at + size_of o) os w e (omega arith) f g t in
    rw (a, b)

-- the window n is closed: the pictures behind it move down
pub closed-views : (p q : List ℕ) (n at : ℕ) (os : List (Option Window)) →
    ((k : ℕ) → k < ending n at os → get_or q k 0 ≡ get_or p k 0) →
    ((k : ℕ) → ending n at os + size_of (get_or os n None) + k < ending (length os) at os → get_or q (ending n at os + k) 0 ≡ get_or p (ending n at os + size_of (get_or os n None) + k) 0) →
    map (view q) (packed at (set os n None)) ≡ set (map (view p) (packed at os)) n nothing
closed-views p q n at [] f t = refl
closed-views p q zero at (o ∷ os) f t =
    let b = moved-views p q (at + size_of o) (at + 0) os (λ k c. let r : at + 0 + k ≡ at + k = omega arith in ap (λ m. get_or q m 0) r ∙ t k c) in
    rw b
closed-views p q (suc n) at (o ∷ os) f t =
    let l = ending-from n (at + size_of o) os in
    let a = same_head p q at o (ending n (at + size_of o) os) l f in
    let b = closed-views p q n (at + size_of o) os f t in
    rw (a, b)

-- the picture of the window n is painted, and nothing outside it
pub painted-views : (p q : List ℕ) (n at : ℕ) (os : List (Option Window)) (w : Window) → get_or os n None ≡ Some w →
    ((k : ℕ) → (k < ending n at os) ⊎ (ending n at os + w.wide * w.high ≤ k) → get_or q k 0 ≡ get_or p k 0) →
    map (view q) (packed at os) ≡ set (map (view p) (packed at os)) n (view q (begun (ending n at os) (Some w)))
painted-views p q n at [] w e f = refl
painted-views p q zero at (o ∷ os) w e f =
    let s : size_of o ≡ w.wide * w.high = ap size_of e in
    let b = moved-views p q (at + size_of o) (at + size_of o) os (λ k c. f (at + size_of o + k) (inr (omega arith))) in
    rw (b, ap (begun at) e)
painted-views p q (suc n) at (o ∷ os) w e f =
    let l = ending-from n (at + size_of o) os in
    let a = same_head p q at o (ending n (at + size_of o) os) l (λ k h. f k (inl h)) in
    let b = painted-views p q n (at + size_of o) os w e f in
    rw (a, b)
