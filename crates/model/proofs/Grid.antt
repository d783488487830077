-- What is in front is one window over all of a cell, so the cells of the grid of edges cover the damage of an event exactly.
use Rattle.std.proofs.Common.{◌≡◌, ℕ, zero, suc, pred, ◌+◌, ◌*◌, ◌<◌, ◌≤◌, min, Bool, true, not, ◌&&◌, eqb, ltb, leb, List, [], ◌∷◌, ◌++◌, length, get_or, ℤ, pos, ◌+ℤ◌, ◌-ℤ◌, sym, refl, ap, ◌∙◌, subst, inl, inr, arith, eqb-true}
use lib.Signed.{lt_z, le_z, mag}
use Rattle.std.proofs.lemmas.Bool.Decides.{nat_tests}
use Rattle.std.proofs.lemmas.Bool.{and_parts, cases_Bool, cases_eq}
use Rattle.model.specs.Basics.{in_box}
use Rattle.model.specs.Desk.{Desk, Sizes, Event, Window, Word, nothing, after, does, run, empty, window, with_window, front, in_window, mine, without, box_fits, kind, sender, make, close, move, raise, show, fill, put, copy, offer, point, press, key, paste}
use Rattle.model.specs.Promise.{subject}
use Rattle.model.specs.System.{front_at, in_painted, taken, hurt, damage, Exact}
use Rattle.model.specs.Grid.{from_zero, insert, sorted, cells, edges, across, down, Painted, painted_box, x_edges, y_edges, grid, FewBoxes}
use Rattle.model.proofs.Picks.{by-pick}
use Rattle.model.proofs.Windows.{window-other, order-window, hands-window}
use Rattle.model.proofs.Fronts.{front-in, over}
use Rattle.model.proofs.Places.{from-left, left-of, right_of, from_le, from-lt}
use Rattle.model.proofs.Cells.{Agree, Upto, grid-count, cells-length, cells-solid}
use Rattle.model.proofs.Sound.{sound-at}

agree-both : (xs ys : List ℕ) (u v : ℕ) → Agree (xs ++ ys) u v → Agree xs u v × Agree ys u v
agree-both [] ys u v t = (tt, t)
agree-both (x ∷ xs) ys u v t = let q = agree-both xs ys u v t.1 in ((t.0, q.0), q.1)

upto-both : (w : ℕ) (xs ys : List ℕ) → Upto w xs → Upto w ys → Upto w (xs ++ ys)
upto-both w [] ys p q = q
upto-both w (x ∷ xs) ys p q = (p.0, upto-both w xs ys p.1 q)

-- an edge on the screen
edge-le : (w e u : ℕ) → u < w → leb (min w e) u ≡ leb e u
edge-le w e u h = grind (arith, nat_tests)

lt_not_le : (u e : ℕ) → ltb u e ≡ not (leb e u)
lt_not_le u e = grind (arith, nat_tests)

-- two sides, over a cell
abbrev lies : ℤ → ℤ → ℕ → Bool
lies x x' i = le_z x (pos i) && lt_z (pos i) x'

edges-agree : (w : ℕ) (x x' : ℤ) (u v : ℕ) → u < w → v < w → Agree (edges w x x') u v → lies x x' u ≡ lies x x' v
unfolding edges
edges-agree w x x' u v p q t =
    let a : leb (from_zero x) u ≡ leb (from_zero x) v = sym (edge-le w (from_zero x) u p) ∙ t.0 ∙ edge-le w (from_zero x) v q in
    let b : leb (from_zero x') u ≡ leb (from_zero x') v = sym (edge-le w (from_zero x') u p) ∙ t.1.0 ∙ edge-le w (from_zero x') v q in
    let c : le_z x (pos u) ≡ le_z x (pos v) = sym (from_le x u) ∙ a ∙ from_le x v in
    let d : lt_z (pos u) x' ≡ lt_z (pos v) x' = sym (from-lt x' u) ∙ lt_not_le u (from_zero x') ∙ ap not b ∙ sym (lt_not_le v (from_zero x')) ∙ from-lt x' v in
    rw (c, d)

edges-upto : (w : ℕ) (x x' : ℤ) → Upto w (edges w x x')
unfolding edges
edges-upto w x x' = (omega arith, (omega arith, tt))

across-upto : (w : ℕ) (vs : List Window) → Upto w (across w vs)
unfolding across
across-upto w [] = tt
across-upto w (v ∷ vs) = upto-both w (edges w v.x (v.x +ℤ pos v.wide)) (across w vs) (edges-upto w _ _) (across-upto w vs)

down-upto : (h : ℕ) (vs : List Window) → Upto h (down h vs)
unfolding down
down-upto h [] = tt
down-upto h (v ∷ vs) = upto-both h (edges h v.y (v.y +ℤ pos v.high)) (down h vs) (edges-upto h _ _) (down-upto h vs)

window-across : (w : ℕ) (v : Window) (a b : ℕ) (y : ℤ) → a < w → b < w → Agree (edges w v.x (v.x +ℤ pos v.wide)) a b → in_window v (pos a) y ≡ in_window v (pos b) y
unfolding in_window
window-across w v a b y p q t = ap (λ l. (v.there && v.shown) && (l && (le_z v.y y && lt_z y (v.y +ℤ pos v.high)))) (edges-agree w v.x (v.x +ℤ pos v.wide) a b p q t)

window-down : (h : ℕ) (v : Window) (a b : ℕ) (x : ℤ) → a < h → b < h → Agree (edges h v.y (v.y +ℤ pos v.high)) a b → in_window v x (pos a) ≡ in_window v x (pos b)
unfolding in_window
window-down h v a b x p q t = ap (λ l. (v.there && v.shown) && ((le_z v.x x && lt_z x (v.x +ℤ pos v.wide)) && l)) (edges-agree h v.y (v.y +ℤ pos v.high) a b p q t)

nowhere : (x y x' y' : ℤ) → in_window nothing x y ≡ in_window nothing x' y'
unfolding in_window
nowhere x y x' y' = refl

all-across : (w : ℕ) (vs : List Window) (n a b : ℕ) (y : ℤ) → a < w → b < w → Agree (across w vs) a b → in_window (get_or vs n nothing) (pos a) y ≡ in_window (get_or vs n nothing) (pos b) y
unfolding across
all-across w [] n a b y p q t = nowhere (pos a) y (pos b) y
all-across w (v ∷ vs) zero a b y p q t = window-across w v a b y p q (agree-both (edges w v.x (v.x +ℤ pos v.wide)) (across w vs) a b t).0
all-across w (v ∷ vs) (suc n) a b y p q t = all-across w vs n a b y p q (agree-both (edges w v.x (v.x +ℤ pos v.wide)) (across w vs) a b t).1

all-down : (h : ℕ) (vs : List Window) (n a b : ℕ) (x : ℤ) → a < h → b < h → Agree (down h vs) a b → in_window (get_or vs n nothing) x (pos a) ≡ in_window (get_or vs n nothing) x (pos b)
unfolding down
all-down h [] n a b x p q t = nowhere x (pos a) x (pos b)
all-down h (v ∷ vs) zero a b x p q t = window-down h v a b x p q (agree-both (edges h v.y (v.y +ℤ pos v.high)) (down h vs) a b t).0
all-down h (v ∷ vs) (suc n) a b x p q t = all-down h vs n a b x p q (agree-both (edges h v.y (v.y +ℤ pos v.high)) (down h vs) a b t).1

-- the same windows lie at two places, so the same is in front
front-places : (d : Desk) (ns : List ℕ) (x y x' y' : ℤ) → ((m : ℕ) → in_window (window d m) x y ≡ in_window (window d m) x' y') → front d ns x y ≡ front d ns x' y'
unfolding front
front-places d [] x y x' y' h = refl
front-places d (n ∷ ns) x y x' y' h = ap (λ f. over f (in_window (window d n) x y) n) (front-places d ns x y x' y' h) ∙ ap (λ b. over (front d ns x' y') b n) (h n)

window-all-across : (w : ℕ) (d : Desk) (n a b : ℕ) (y : ℤ) → a < w → b < w → Agree (across w d.windows) a b → in_window (window d n) (pos a) y ≡ in_window (window d n) (pos b) y
unfolding window
window-all-across w d n a b y p q t = all-across w d.windows n a b y p q t

window-all-down : (h : ℕ) (d : Desk) (n a b : ℕ) (x : ℤ) → a < h → b < h → Agree (down h d.windows) a b → in_window (window d n) x (pos a) ≡ in_window (window d n) x (pos b)
unfolding window
window-all-down h d n a b x p q t = all-down h d.windows n a b x p q t

-- one window may differ, at one pair of places
same-lies : (d d' : Desk) (n : ℕ) (x y x' y' : ℤ) → ((m : ℕ) → (m ≡ n → ⊥) → window d m ≡ window d' m) → ((m : ℕ) → in_window (window d m) x y ≡ in_window (window d m) x' y') →
    in_window (window d' n) x y ≡ in_window (window d' n) x' y' → (m : ℕ) → in_window (window d' m) x y ≡ in_window (window d' m) x' y'
same-lies d d' n x y x' y' off h e m =
    elim (cases_eq m n) [
      | inl q ↦ subst (λ k. in_window (window d' k) x y ≡ in_window (window d' k) x' y') (sym q) e
      | inr q ↦ subst (λ (w : Window). in_window w x y ≡ in_window w x' y') (off m q) (h m)
    ]

-- where a window lies, its dots are counted from its upper left one
window-left : (w : Window) (x y : ℤ) → in_window w x y ≡ true → le_z w.x x ≡ true
unfolding in_window
window-left w x y e = (and_parts _ _ (and_parts _ _ (and_parts _ _ e).1).0).0

window-top : (w : Window) (x y : ℤ) → in_window w x y ≡ true → le_z w.y y ≡ true
unfolding in_window
window-top w x y e = grind arith

pub x-upto : (z : Sizes) (d d' : Desk) (n : ℕ) (b : Painted) → Upto z.wide (x_edges z d d' n b)
x-upto z d d' n b = upto-both z.wide _ _ (edges-upto z.wide _ _) (upto-both z.wide _ _ (edges-upto z.wide _ _) (across-upto z.wide d.windows))

pub y-upto : (z : Sizes) (d d' : Desk) (n : ℕ) (b : Painted) → Upto z.high (y_edges z d d' n b)
y-upto z d d' n b = upto-both z.high _ _ (edges-upto z.high _ _) (upto-both z.high _ _ (edges-upto z.high _ _) (down-upto z.high d.windows))

-- two desks that differ in the window n alone, and a box of its own dots: over a cell both fronts stay, and so does what is painted
module _ (z : Sizes) (d d' : Desk) (n : ℕ) (b : Painted) (off : (m : ℕ) → (m ≡ n → ⊥) → window d m ≡ window d' m) where
  pub front-x : (k u v : ℕ) → u < z.wide → v < z.wide → Agree (x_edges z d d' n b) u v → (front_at d u k ≡ front_at d v k) × (front_at d' u k ≡ front_at d' v k)
  front-x k u v p q t =
      let a = agree-both (edges z.wide (window d' n).x ((window d' n).x +ℤ pos (window d' n).wide)) _ u v t in
      let c = agree-both (edges z.wide ((window d n).x +ℤ pos b.x) ((window d n).x +ℤ pos (b.x + b.wide))) (across z.wide d.windows) u v a.1 in
      let l = λ (m : ℕ). window-all-across z.wide d m u v (pos k) p q c.1 in (
        front-places d d.order (pos u) (pos k) (pos v) (pos k) l,
        front-places d' d'.order (pos u) (pos k) (pos v) (pos k) (same-lies d d' n (pos u) (pos k) (pos v) (pos k) off l (window-across z.wide (window d' n) u v (pos k) p q a.0)),
      )

  pub front-y : (k u v : ℕ) → u < z.high → v < z.high → Agree (y_edges z d d' n b) u v → (front_at d k u ≡ front_at d k v) × (front_at d' k u ≡ front_at d' k v)
  front-y k u v p q t =
      let a = agree-both (edges z.high (window d' n).y ((window d' n).y +ℤ pos (window d' n).high)) _ u v t in
      let c = agree-both (edges z.high ((window d n).y +ℤ pos b.y) ((window d n).y +ℤ pos (b.y + b.high))) (down z.high d.windows) u v a.1 in
      let l = λ (m : ℕ). window-all-down z.high d m u v (pos k) p q c.1 in (
        front-places d d.order (pos k) (pos u) (pos k) (pos v) l,
        front-places d' d'.order (pos k) (pos u) (pos k) (pos v) (same-lies d d' n (pos k) (pos u) (pos k) (pos v) off l (window-down z.high (window d' n) u v (pos k) p q a.0)),
      )

  -- where the window is in front, a place in the box is one between its edges
  inner-x : (x w i k : ℕ) → front_at d i k ≡ suc n → (leb x (mag (pos i -ℤ (window d n).x)) && ltb (mag (pos i -ℤ (window d n).x)) (x + w)) ≡ lies ((window d n).x +ℤ pos x) ((window d n).x +ℤ pos (x + w)) i
  inner-x x w i k e =
      let l = from-left (window d n).x i (window-left (window d n) (pos i) (pos k) (front-in d d.order (pos i) (pos k) n e)) in
      rw (left-of (window d n).x i x _ l, right_of (window d n).x i (x + w) _ l)

  inner-y : (y h i k : ℕ) → front_at d i k ≡ suc n → (leb y (mag (pos k -ℤ (window d n).y)) && ltb (mag (pos k -ℤ (window d n).y)) (y + h)) ≡ lies ((window d n).y +ℤ pos y) ((window d n).y +ℤ pos (y + h)) k
  inner-y y h i k e =
      let l = from-left (window d n).y k (window-top (window d n) (pos i) (pos k) (front-in d d.order (pos i) (pos k) n e)) in
      rw (left-of (window d n).y k y _ l, right_of (window d n).y k (y + h) _ l)

  gated : (f g : ℕ) (p q : Bool) → f ≡ g → (f ≡ suc n → p ≡ q) → (eqb f (suc n) && p) ≡ (eqb g (suc n) && q)
  gated f g p q e h =
      elim (cases_Bool (eqb g (suc n))) [
        | inl t ↦ rw (e, t) (h (e ∙ eqb-true g (suc n) t))
        | inr t ↦ rw (e, t)
      ]

  paint-x : (k u v : ℕ) → u < z.wide → v < z.wide → Agree (x_edges z d d' n b) u v →
      (eqb (front_at d u k) (suc n) && in_painted d n b.x b.y b.wide b.high u k) ≡ (eqb (front_at d v k) (suc n) && in_painted d n b.x b.y b.wide b.high v k)
  unfolding in_box
  paint-x k u v p q t =
      let f = (front-x k u v p q t).0 in
      let a = agree-both (edges z.wide (window d' n).x ((window d' n).x +ℤ pos (window d' n).wide)) _ u v t in
      let c = agree-both (edges z.wide ((window d n).x +ℤ pos b.x) ((window d n).x +ℤ pos (b.x + b.wide))) (across z.wide d.windows) u v a.1 in
      gated _ _ _ _ f (λ e. ap (λ l. l && (leb b.y (mag (pos k -ℤ (window d n).y)) && ltb (mag (pos k -ℤ (window d n).y)) (b.y + b.high)))
      (inner-x b.x b.wide u k e ∙ edges-agree z.wide _ _ u v p q c.0 ∙ sym (inner-x b.x b.wide v k (sym f ∙ e))))

  paint-y : (k u v : ℕ) → u < z.high → v < z.high → Agree (y_edges z d d' n b) u v →
      (eqb (front_at d k u) (suc n) && in_painted d n b.x b.y b.wide b.high k u) ≡ (eqb (front_at d k v) (suc n) && in_painted d n b.x b.y b.wide b.high k v)
  unfolding in_box
  paint-y k u v p q t =
      let f = (front-y k u v p q t).0 in
      let a = agree-both (edges z.high (window d' n).y ((window d' n).y +ℤ pos (window d' n).high)) _ u v t in
      let c = agree-both (edges z.high ((window d n).y +ℤ pos b.y) ((window d n).y +ℤ pos (b.y + b.high))) (down z.high d.windows) u v a.1 in
      gated _ _ _ _ f (λ e. ap (λ l. (leb b.x (mag (pos k -ℤ (window d n).x)) && ltb (mag (pos k -ℤ (window d n).x)) (b.x + b.wide)) && l)
      (inner-y b.y b.high k u e ∙ edges-agree z.high _ _ u v p q c.0 ∙ sym (inner-y b.y b.high k v (sym f ∙ e))))

-- an event changes no window but its subject
abbrev pub Off : Desk → ℕ → Desk × List (ℕ × Word) → Type 0
Off d n r = (m : ℕ) → (m ≡ n → ⊥) → window d m ≡ window r.0 m

write-off : (d : Desk) (n : ℕ) (w : Window) (m : ℕ) → (m ≡ n → ⊥) → window d m ≡ window (with_window d n w) m
write-off d n w m h = sym (window-other d n m w h)

does-off : (z : Sizes) (d : Desk) (e : Event) (n : ℕ) → subject e ≡ suc n → Off d n (does z d e)
unfolding does subject
does-off z d (make c x y w h) n t = absurd (omega arith)
does-off z d (close c k) n t =
    let q : n ≡ k = omega arith in
    by-pick (mine d c k) _ _ (Off d n)
    (λ _ m h. write-off d k nothing m (λ e. h (e ∙ sym q)) ∙ sym (order-window (with_window d k nothing) (without k d.order) m) ∙ sym (hands-window _ _ _ m)) (λ _ _ _. refl)
does-off z d (move c k x y) n t = let q : n ≡ k = omega arith in by-pick (mine d c k) _ _ (Off d n) (λ _ m h. write-off d k _ m (λ e. h (e ∙ sym q))) (λ _ _ _. refl)
does-off z d (raise c k) n t = by-pick (mine d c k) _ _ (Off d n) (λ _ m h. sym (order-window d _ m)) (λ _ _ _. refl)
does-off z d (show c k b) n t = let q : n ≡ k = omega arith in by-pick (mine d c k) _ _ (Off d n) (λ _ m h. write-off d k _ m (λ e. h (e ∙ sym q))) (λ _ _ _. refl)
does-off z d (fill c k x y w h q) n t =
    let q : n ≡ k = omega arith in by-pick (mine d c k && box_fits (window d k) x y w h) _ _ (Off d n) (λ _ m h. write-off d k _ m (λ e. h (e ∙ sym q))) (λ _ _ _. refl)
does-off z d (put c k x y l) n t =
    let q : n ≡ k = omega arith in by-pick (mine d c k && box_fits (window d k) x y (length l) 1) _ _ (Off d n) (λ _ m h. write-off d k _ m (λ e. h (e ∙ sym q))) (λ _ _ _. refl)
does-off z d (copy c k x y w h a b) n t =
    let q : n ≡ k = omega arith in
    by-pick (mine d c k && (box_fits (window d k) x y w h && box_fits (window d k) a b w h)) _ _ (Off d n) (λ _ m h. write-off d k _ m (λ e. h (e ∙ sym q))) (λ _ _ _. refl)
does-off z d (offer c l) n t = absurd (omega arith)
does-off z d (point x y) n t = absurd (omega arith)
does-off z d (press b) n t = absurd (omega arith)
does-off z d (key k) n t = absurd (omega arith)
does-off z d paste n t = absurd (omega arith)

pub after-off : (z : Sizes) (d : Desk) (e : Event) (n : ℕ) → subject e ≡ suc n → Off d n (after z d e)
unfolding after
after-off z d e n t = by-pick (z.built (kind e)) (does z d e) (d, sender e) (Off d n) (λ _. does-off z d e n t) (λ _ _ _. refl)

-- two dots that no edge of an event's grid parts, across or down
abbrev SameHurt : Sizes → Desk → Event → Type 0
SameHurt z d e =
    ((k u v : ℕ) → u < z.wide → v < z.wide → Agree (x_edges z d (after z d e).0 (pred (subject e)) (painted_box e)) u v → hurt d (after z d e).0 e u k ≡ hurt d (after z d e).0 e v k) ×
    ((k u v : ℕ) → u < z.high → v < z.high → Agree (y_edges z d (after z d e).0 (pred (subject e)) (painted_box e)) u v → hurt d (after z d e).0 e k u ≡ hurt d (after z d e).0 e k v)

same-hurt : (z : Sizes) (d : Desk) (e : Event) → SameHurt z d e
unfolding hurt subject painted_box
same-hurt z d (make c x y w h) = (λ _ _ _ _ _ _. refl, λ _ _ _ _ _ _. refl)
same-hurt z d (close c n) =
    let o = after-off z d (close c n) n refl in
    (λ k u v p q t. let f = front-x z d _ n (painted_box (close c n)) o k u v p q t in rw (f.0, f.1), λ k u v p q t. let f = front-y z d _ n (painted_box (close c n)) o k u v p q t in rw (f.0, f.1))
same-hurt z d (move c n x y) =
    let o = after-off z d (move c n x y) n refl in
    (λ k u v p q t. let f = front-x z d _ n (painted_box (move c n x y)) o k u v p q t in rw (f.0, f.1), λ k u v p q t. let f = front-y z d _ n (painted_box (move c n x y)) o k u v p q t in rw (f.0, f.1))
same-hurt z d (raise c n) =
    let o = after-off z d (raise c n) n refl in
    (λ k u v p q t. let f = front-x z d _ n (painted_box (raise c n)) o k u v p q t in rw (f.0, f.1), λ k u v p q t. let f = front-y z d _ n (painted_box (raise c n)) o k u v p q t in rw (f.0, f.1))
same-hurt z d (show c n b) =
    let o = after-off z d (show c n b) n refl in
    (λ k u v p q t. let f = front-x z d _ n (painted_box (show c n b)) o k u v p q t in rw (f.0, f.1), λ k u v p q t. let f = front-y z d _ n (painted_box (show c n b)) o k u v p q t in rw (f.0, f.1))
same-hurt z d (fill c n x y w h q) =
    let o = after-off z d (fill c n x y w h q) n refl in (paint-x z d _ n (painted_box (fill c n x y w h q)) o, paint-y z d _ n (painted_box (fill c n x y w h q)) o)
same-hurt z d (put c n x y l) =
    let o = after-off z d (put c n x y l) n refl in (paint-x z d _ n (painted_box (put c n x y l)) o, paint-y z d _ n (painted_box (put c n x y l)) o)
same-hurt z d (copy c n x y w h a b) =
    let o = after-off z d (copy c n x y w h a b) n refl in (paint-x z d _ n (painted_box (copy c n x y w h a b)) o, paint-y z d _ n (painted_box (copy c n x y w h a b)) o)
same-hurt z d (offer c l) = (λ _ _ _ _ _ _. refl, λ _ _ _ _ _ _. refl)
same-hurt z d (point x y) = (λ _ _ _ _ _ _. refl, λ _ _ _ _ _ _. refl)
same-hurt z d (press b) = (λ _ _ _ _ _ _. refl, λ _ _ _ _ _ _. refl)
same-hurt z d (key k) = (λ _ _ _ _ _ _. refl, λ _ _ _ _ _ _. refl)
same-hurt z d paste = (λ _ _ _ _ _ _. refl, λ _ _ _ _ _ _. refl)

pub grid-exact : Exact grid
unfolding grid damage
grid-exact =
    record {
      counts = λ z d e i j.
          let g = z.built (kind e) && taken z d e in
          grid-count (damage z d e) z.wide z.high i j (x_edges z d (after z d e).0 (pred (subject e)) (painted_box e)) (y_edges z d (after z d e).0 (pred (subject e)) (painted_box e))
          (x-upto z d (after z d e).0 (pred (subject e)) (painted_box e)) (y-upto z d (after z d e).0 (pred (subject e)) (painted_box e))
          (λ k u v p q t. ap (λ v. g && v) ((same-hurt z d e).0 k u v p q t)) (λ k u v p q t. ap (λ v. g && v) ((same-hurt z d e).1 k u v p q t));
      solid = λ z d e. cells-solid (damage z d e) z.wide z.high _ _ 0;
    }

-- how many boxes there are at most: 2 edges of each window, 4 more, and 1
pub insert-length : (e : ℕ) (fs : List ℕ) → length (insert e fs) ≡ suc (length fs)
unfolding insert
insert-length e [] = refl
insert-length e (f ∷ fs) = by-pick (leb e f) (e ∷ f ∷ fs) (f ∷ insert e fs) (λ l. length l ≡ suc (suc (length fs))) (λ _. refl) (λ _. ap suc (insert-length e fs))

pub sorted-length : (es : List ℕ) → length (sorted es) ≡ length es
unfolding sorted
sorted-length [] = refl
sorted-length (e ∷ es) = insert-length e (sorted es) ∙ ap suc (sorted-length es)

pub across-length : (w : ℕ) (vs : List Window) → length (across w vs) ≡ 2 * length vs
unfolding across edges
across-length w [] = refl
across-length w (v ∷ vs) = let h = across-length w vs in omega arith

pub down-length : (h : ℕ) (vs : List Window) → length (down h vs) ≡ 2 * length vs
unfolding down edges
down-length h [] = refl
down-length h (v ∷ vs) = let k = down-length h vs in omega arith

pub grid-length : (z : Sizes) (d d' : Desk) (n : ℕ) (b : Painted) (s : ℕ → ℕ → Bool) →
    length (cells s z.wide z.high (sorted (x_edges z d d' n b)) 0 (sorted (y_edges z d d' n b))) ≤ (2 * length d.windows + 5) * (2 * length d.windows + 5)
unfolding edges
grid-length z d d' n b s =
    let a = across-length z.wide d.windows in
    let c = down-length z.high d.windows in
    let p : suc (length (sorted (x_edges z d d' n b))) ≡ 2 * length d.windows + 5 = simp sorted-length (omega arith) in
    let q : suc (length (sorted (y_edges z d d' n b))) ≡ 2 * length d.windows + 5 = simp sorted-length (omega arith) in
    subst (λ (k : ℕ). length (cells s z.wide z.high (sorted (x_edges z d d' n b)) 0 (sorted (y_edges z d d' n b))) ≤ k * (2 * length d.windows + 5)) q
    (subst (λ (k : ℕ). length (cells s z.wide z.high (sorted (x_edges z d d' n b)) 0 (sorted (y_edges z d d' n b))) ≤ suc (length (sorted (y_edges z d d' n b))) * k) p
    (cells-length s z.wide z.high (sorted (x_edges z d d' n b)) (sorted (y_edges z d d' n b)) 0))

pub few-boxes : FewBoxes
unfolding FewBoxes grid
few-boxes z es e =
    let d = run z (empty z) es in
    subst (λ (w : ℕ). length (grid z d e) ≤ (2 * w + 5) * (2 * w + 5)) (sound-at z es).len (grid-length z d (after z d e).0 (pred (subject e)) (painted_box e) (damage z d e))
