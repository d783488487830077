-- The damage of an event: outside it every dot is as it was, and it lies where the window that the event is about is in front, before or after.
use Rattle.std.proofs.Common.{◌≡◌, ℕ, zero, suc, ◌+◌, ◌-◌, ◌*◌, Bool, true, false, not, ◌&&◌, ◌||◌, eqb, ltb, leb, ◌⊎◌, List, [], ◌∷◌, ◌++◌, length, get_or, ℤ, pos, sym, refl, ap, ◌∙◌, inl, inr, arith, eqb-true}
use borrow.Author.Tests.{eqb-false, not-true, not-false}
use Rattle.std.proofs.lemmas.Bool.Decides.{nat_tests}
use Rattle.std.proofs.lemmas.Int.{ints}
use Rattle.std.proofs.lemmas.Bool.{and_parts, and_cases, and_from, and_left, and_right, or_cases, or_parts, both_ways}
use Rattle.model.specs.Basics.{pick, in_box}
use Rattle.model.specs.Desk.{Desk, Sizes, Event, Window, Word, nothing, after, does, dot, dot_of, window, with_window, with_order, with_pointer, with_hands, with_clip, front, in_window, free, area, without, mine, painted, box_fits, kind, sender, press_down, press_up, make, close, move, raise, show, fill, put, copy, offer, point, press, key, paste}
use Rattle.model.specs.Promise.{subject, equal, same_number, within, touched}
use Rattle.model.specs.System.{front_at, in_painted, same_place, taken, turned, hurt, damage, quiet}
use Rattle.model.proofs.Picks.{by-pick, pick-false}
use Rattle.model.proofs.Windows.{field-set, window-other, order-window, hands-window, clip-window, pointer-window, window-field, free-window, gone-window}
use Rattle.model.proofs.Order.{without-twice, without-raised}
use Rattle.model.proofs.Fronts.{seen_of, front-in, front-there, front_same, front-subject, front-unseen, unshown, absent}

-- a request that is refused leaves the desk as it was
pub refused : (z : Sizes) (d : Desk) (e : Event) → taken z d e ≡ false → (does z d e).0 ≡ d
unfolding does taken
refused z d (make c x y w h) t = rw t
refused z d (close c n) t = rw t
refused z d (move c n x y) t = rw t
refused z d (raise c n) t = rw t
refused z d (show c n b) t = rw t
refused z d (fill c n x y w h q) t = rw t
refused z d (put c n x y l) t = rw t
refused z d (copy c n x y w h a b) t = rw t
refused z d (offer c l) t = rw t
refused z d (point x y) t = absurd (both_ways true t refl)
refused z d (press b) t = absurd (both_ways true t refl)
refused z d (key k) t = absurd (both_ways true t refl)
refused z d paste t = absurd (both_ways true t refl)

-- and is answered no
pub refused-told : (z : Sizes) (d : Desk) (e : Event) → taken z d e ≡ false → (does z d e).1 ≡ sender e
unfolding does taken sender
refused-told z d (make c x y w h) t = rw t
refused-told z d (close c n) t = rw t
refused-told z d (move c n x y) t = rw t
refused-told z d (raise c n) t = rw t
refused-told z d (show c n b) t = rw t
refused-told z d (fill c n x y w h q) t = rw t
refused-told z d (put c n x y l) t = rw t
refused-told z d (copy c n x y w h a b) t = rw t
refused-told z d (offer c l) t = rw t
refused-told z d (point x y) t = absurd (both_ways true t refl)
refused-told z d (press b) t = absurd (both_ways true t refl)
refused-told z d (key k) t = absurd (both_ways true t refl)
refused-told z d paste t = absurd (both_ways true t refl)

-- the same window in front, and its dot there the same
pub same-dot : (d d' : Desk) (i j : ℕ) → front_at d i j ≡ front_at d' i j → ((n : ℕ) → front_at d i j ≡ suc n → seen_of (window d' n) i j ≡ seen_of (window d n) i j) → dot d' i j ≡ dot d i j
unfolding dot dot_of
same-dot d d' i j e h = ap (dot_of d' i j) (sym e) ∙ go (front_at d i j) refl
  where
    go : (k : ℕ) → front_at d i j ≡ k → dot_of d' i j k ≡ dot_of d i j k
    go zero q = refl
    go (suc n) q = h n q

-- where windows and order stay, dots do
pub still : (d d' : Desk) (i j : ℕ) → ((n : ℕ) → window d' n ≡ window d n) → d.order ≡ d'.order → dot d' i j ≡ dot d i j
still d d' i j h e =
    same-dot d d' i j (front_same d d' d.order (pos i) (pos j) (λ m. ap (λ w. in_window w (pos i) (pos j)) (sym (h m))) ∙ ap (λ o. front d' o (pos i) (pos j)) e)
    (λ n _. ap (λ w. seen_of w i j) (h n))

not_same : (a b : ℕ) → not (eqb a b) ≡ false → a ≡ b
not_same a b e = eqb-true a b (not-false (eqb a b) e)

-- no hurt, no change
abbrev Fine : Desk → Event → ℕ → ℕ → Desk × List (ℕ × Word) → Type 0
Fine d e i j r = hurt d r.0 e i j ≡ false → dot r.0 i j ≡ dot d i j

-- a window paints in a box
module _ (d : Desk) (n i j x y w h : ℕ) (f : ℕ → ℕ → ℕ) where
  abbrev with-paint : Desk
  with-paint = with_window d n (painted (window d n) (λ a b. pick (in_box x y w h a b) (f a b) ((window d n).dots a b)))

  pub paint-front : front_at d i j ≡ front_at with-paint i j
  unfolding with_window window painted in_window
  paint-front =
      front_same d with-paint d.order (pos i) (pos j)
      (λ m. sym (field-set (λ v. in_window v (pos i) (pos j)) d.windows n m (painted (window d n) (λ a b. pick (in_box x y w h a b) (f a b) ((window d n).dots a b))) refl))

  pub paint-outside : (eqb (front_at d i j) (suc n) && in_painted d n x y w h i j) ≡ false → dot with-paint i j ≡ dot d i j
  unfolding with_window window painted
  paint-outside e =
      same-dot d with-paint i j paint-front
      (λ m q. elim (and_cases (eqb (front_at d i j) (suc n)) (in_painted d n x y w h i j) e) [
        | inl ne ↦ ap (λ v. seen_of v i j) (window-other d n m _ (λ mn. eqb-false _ _ ne (q ∙ ap suc mn)))
        | inr out ↦ field-set (λ v. seen_of v i j) d.windows n m (painted (window d n) (λ a b. pick (in_box x y w h a b) (f a b) ((window d n).dots a b))) (pick-false _ _ _ out)
      ])

-- a window is moved: where it is in front it is seen as before only if it stays in its place
pub same-place-is : (a b : ℤ) → same_place a b ≡ true → a ≡ b
same-place-is a b e = grind (arith, ints, nat_tests)

abbrev placed : Window → ℕ → ℤ → ℤ → Window
placed w c x y = record { there = true; owner = c; shown = w.shown; x = x; y = y; wide = w.wide; high = w.high; dots = w.dots }

placed-seen : (w : Window) (c i j : ℕ) (x y : ℤ) → (same_place w.x x && same_place w.y y) ≡ true → seen_of (placed w c x y) i j ≡ seen_of w i j
placed-seen w c i j x y e =
    let p = and_parts (same_place w.x x) (same_place w.y y) e in
    rw (same-place-is w.x x p.0, same-place-is w.y y p.1)

move-outside : (d : Desk) (n c i j : ℕ) (x y : ℤ) → hurt d (with_window d n (placed (window d n) c x y)) (move c n x y) i j ≡ false →
    dot (with_window d n (placed (window d n) c x y)) i j ≡ dot d i j
unfolding hurt
move-outside d n c i j x y e =
    let w = placed (window d n) c x y in
    let p = or_parts (turned d (with_window d n w) i j) (eqb (front_at (with_window d n w) i j) (suc n) && not (same_place (window d n).x x && same_place (window d n).y y)) e in
    let s = not_same (front_at d i j) (front_at (with_window d n w) i j) p.0 in
    same-dot d (with_window d n w) i j s
    (λ m q. elim (and_cases (eqb (front_at (with_window d n w) i j) (suc n)) (not (same_place (window d n).x x && same_place (window d n).y y)) p.1) [
      | inl ne ↦ ap (λ v. seen_of v i j) (window-other d n m w (λ mn. eqb-false _ _ ne (sym s ∙ q ∙ ap suc mn)))
      | inr at ↦ window-field (λ v. seen_of v i j) d n m w (placed-seen (window d n) c i j x y (not-false _ at))
    ])

-- a window is taken away
close-outside : (d : Desk) (n i j k h : ℕ) (o : List ℕ) →
    not (eqb (front_at d i j) (front_at (with_hands (with_order (with_window d n nothing) o) k h) i j)) ≡ false → dot (with_hands (with_order (with_window d n nothing) o) k h) i j ≡ dot d i j
close-outside d n i j k h o e =
    let d' = with_hands (with_order (with_window d n nothing) o) k h in
    let s : front_at d i j ≡ front_at d' i j = not_same (front_at d i j) (front_at d' i j) e in
    same-dot d d' i j s
    (λ m q.
    ap (λ v. seen_of v i j)
    (hands-window (with_order (with_window d n nothing) o) k h m ∙ order-window (with_window d n nothing) o m ∙
    window-other d n m nothing
    (λ mn. both_ways (window d' m).there (ap (λ l. (window d' l).there) mn ∙ ap (λ (v : Window). v.there) (gone-window d n k h o)) (front-there d' d'.order (pos i) (pos j) m (sym s ∙ q)))))

make-outside : (d : Desk) (w : Window) (i j : ℕ) → w.shown ≡ false → dot (with_order (with_window d (free d.windows) w) (d.order ++ free d.windows ∷ [])) i j ≡ dot d i j
unfolding with_order
make-outside d w i j e =
    same-dot d d' i j (front_same d d' d.order (pos i) (pos j) (λ m. sym (lies m)) ∙ sym (front-unseen d' f d.order (pos i) (pos j) (lies f ∙ gap)))
    (λ m q.
    ap (λ v. seen_of v i j)
    (order-window (with_window d f w) (d.order ++ f ∷ []) m ∙
    window-other d f m w (λ mf. both_ways _ gap (ap (λ l. in_window (window d l) (pos i) (pos j)) (sym mf) ∙ front-in d d.order (pos i) (pos j) m q))))
  where
    f : ℕ
    f = free d.windows

    d' : Desk
    d' = with_order (with_window d f w) (d.order ++ f ∷ [])

    gap : in_window (window d f) (pos i) (pos j) ≡ false
    gap = absent (window d f) (pos i) (pos j) (free-window d)

    lies : (m : ℕ) → in_window (window d' m) (pos i) (pos j) ≡ in_window (window d m) (pos i) (pos j)
    lies m = ap (λ v. in_window v (pos i) (pos j)) (order-window (with_window d f w) (d.order ++ f ∷ []) m) ∙ window-field (λ v. in_window v (pos i) (pos j)) d f m w (unshown w (pos i) (pos j) e ∙ sym gap)

-- an order changes
order-outside : (d : Desk) (o : List ℕ) (i j : ℕ) → not (eqb (front_at d i j) (front_at (with_order d o) i j)) ≡ false → dot (with_order d o) i j ≡ dot d i j
order-outside d o i j e = same-dot d (with_order d o) i j (not_same _ _ e) (λ m q. ap (λ v. seen_of v i j) (order-window d o m))

-- a window is shown or not
show-outside : (d : Desk) (n i j : ℕ) (w : Window) → seen_of w i j ≡ seen_of (window d n) i j →
    not (eqb (front_at d i j) (front_at (with_window d n w) i j)) ≡ false → dot (with_window d n w) i j ≡ dot d i j
show-outside d n i j w s e = same-dot d (with_window d n w) i j (not_same _ _ e) (λ m q. window-field (λ v. seen_of v i j) d n m w s)

hands-still : (d : Desk) (k h i j : ℕ) → dot (with_hands d k h) i j ≡ dot d i j
unfolding with_hands
hands-still d k h i j = still d (with_hands d k h) i j (hands-window d k h) refl

clip-still : (d : Desk) (c : ℕ) (l : List ℕ) (i j : ℕ) → dot (with_clip d c l) i j ≡ dot d i j
unfolding with_clip
clip-still d c l i j = still d (with_clip d c l) i j (clip-window d c l) refl

pointer-still : (d : Desk) (x y : ℤ) (i j : ℕ) → dot (with_pointer d x y) i j ≡ dot d i j
unfolding with_pointer
pointer-still d x y i j = still d (with_pointer d x y) i j (pointer-window d x y) refl

down-still : (d : Desk) (k i j : ℕ) → dot (press_down d k).0 i j ≡ dot d i j
unfolding press_down
down-still d zero i j = hands-still d 0 0 i j
down-still d (suc n) i j = hands-still d (suc n) (suc n) i j

up-still : (d : Desk) (k i j : ℕ) → dot (press_up d k).0 i j ≡ dot d i j
unfolding press_up
up-still d zero i j = refl
up-still d (suc n) i j = hands-still d d.keys 0 i j

does-outside : (z : Sizes) (d : Desk) (e : Event) (i j : ℕ) → Fine d e i j (does z d e)
unfolding does hurt
does-outside z d (make c x y w h) i j =
    by-pick ((ltb c z.programs && ltb (free d.windows) z.windows) && ((leb 1 w && leb w z.side) && ((leb 1 h && leb h z.side) && leb (area d.windows + w * h) z.dots))) _ _ (Fine d (make c x y w h) i j)
    (λ _ _. make-outside d _ i j refl) (λ _ _. refl)
does-outside z d (close c n) i j = by-pick (mine d c n) _ _ (Fine d (close c n) i j) (λ _ e. close-outside d n i j _ _ _ e) (λ _ _. refl)
does-outside z d (move c n x y) i j = by-pick (mine d c n) _ _ (Fine d (move c n x y) i j) (λ _ e. move-outside d n c i j x y e) (λ _ _. refl)
does-outside z d (raise c n) i j = by-pick (mine d c n) _ _ (Fine d (raise c n) i j) (λ _ e. order-outside d _ i j e) (λ _ _. refl)
does-outside z d (show c n b) i j = by-pick (mine d c n) _ _ (Fine d (show c n b) i j) (λ _ e. show-outside d n i j _ refl e) (λ _ _. refl)
does-outside z d (fill c n x y w h q) i j =
    by-pick (mine d c n && box_fits (window d n) x y w h) _ _ (Fine d (fill c n x y w h q) i j) (λ _ e. paint-outside d n i j x y w h (λ a b. q) e) (λ _ _. refl)
does-outside z d (put c n x y l) i j =
    by-pick (mine d c n && box_fits (window d n) x y (length l) 1) _ _ (Fine d (put c n x y l) i j) (λ _ e. paint-outside d n i j x y (length l) 1 (λ a b. get_or l (a - x) 0) e) (λ _ _. refl)
does-outside z d (copy c n x y w h a b) i j =
    by-pick (mine d c n && (box_fits (window d n) x y w h && box_fits (window d n) a b w h)) _ _ (Fine d (copy c n x y w h a b) i j)
    (λ _ e. paint-outside d n i j a b w h (λ k l. (window d n).dots (x + (k - a)) (y + (l - b))) e) (λ _ _. refl)
does-outside z d (offer c l) i j =
    by-pick ((not (eqb d.keys 0) && eqb (window d (d.keys - 1)).owner c) && leb (length l) 4096) _ _ (Fine d (offer c l) i j) (λ _ _. clip-still d _ _ i j) (λ _ _. refl)
does-outside z d (point x y) i j = λ _. pointer-still d _ _ i j
does-outside z d (press true) i j = λ _. down-still d (front d d.order d.px d.py) i j
does-outside z d (press false) i j = λ _. up-still d d.held i j
does-outside z d (key k) i j = λ _. refl
does-outside z d paste i j = λ _. refl

-- outside the damage every dot is as it was
pub outside : (z : Sizes) (d : Desk) (e : Event) (i j : ℕ) → damage z d e i j ≡ false → dot (after z d e).0 i j ≡ dot d i j
unfolding damage after
outside z d e i j =
    by-pick (z.built (kind e)) (does z d e) (d, sender e) (λ (r : Desk × List (ℕ × Word)). ((z.built (kind e) && taken z d e) && hurt d r.0 e i j) ≡ false → dot r.0 i j ≡ dot d i j)
    (λ b q. elim (and_cases (z.built (kind e) && taken z d e) (hurt d (does z d e).0 e i j) q) [
      | inl t ↦ ap (λ k. dot k i j) (refused z d e (sym (ap (λ v. v && taken z d e) b) ∙ t))
      | inr h ↦ does-outside z d e i j h
    ])
    (λ _ _. refl)

equal-same : (n : ℕ) → equal n n ≡ true
equal-same zero = refl
equal-same (suc n) = equal-same n

same-same : (n k : ℕ) → k ≡ suc n → same_number (suc n) k ≡ true
same-same n k e = rw e (equal-same n)

or-true : (a b : Bool) → (a ≡ true) ⊎ (b ≡ true) → pick a true b ≡ true
or-true true b h = refl
or-true false b h = elim h [ inl e ↦ absurd (both_ways false refl e) | inr e ↦ e ]

pub in-front : (n k k' : ℕ) → (k ≡ suc n) ⊎ (k' ≡ suc n) → pick (same_number (suc n) k) true (same_number (suc n) k') ≡ true
in-front n k k' h =
    elim h [ inl e ↦ or-true _ _ (inl (same-same n k e)) | inr e ↦ or-true _ _ (inr (same-same n k' e)) ]

-- what may be sent, given the desk after the event
abbrev by-subject : Desk → Desk → Event → ℕ → ℕ → Bool
by-subject d d' e i j =
    within d e i j && pick (same_number (subject e) (front d d.order (pos i) (pos j))) true (same_number (subject e) (front d' d'.order (pos i) (pos j)))

-- hurt lies within what may be sent
abbrev Covers : Desk → Event → ℕ → ℕ → Desk × List (ℕ × Word) → Type 0
Covers d e i j r = hurt d r.0 e i j ≡ true → by-subject d r.0 e i j ≡ true

apart : (a b : ℕ) → not (eqb a b) ≡ true → a ≡ b → ⊥
apart a b e = eqb-false a b (not-true (eqb a b) e)

-- the front changed, so it was the subject's, or is
changed : (d d' : Desk) (n i j : ℕ) → ((m : ℕ) → (m ≡ n → ⊥) → window d m ≡ window d' m) → without n d.order ≡ without n d'.order → not (eqb (front_at d i j) (front_at d' i j)) ≡ true →
    pick (same_number (suc n) (front_at d i j)) true (same_number (suc n) (front_at d' i j)) ≡ true
changed d d' n i j h o e =
    elim (front-subject d d' n d.order d'.order (pos i) (pos j) h o) [ inl q ↦ absurd (apart _ _ e q) | inr q ↦ in-front n _ _ q ]

unchanged : (k : ℕ) {X : Type 0} → not (eqb k k) ≡ true → X
unchanged k e = absurd (apart k k e refl)

-- paint
pub paint-covers : (n k k' : ℕ) (b : Bool) → (eqb k (suc n) && b) ≡ true → (b && pick (same_number (suc n) k) true (same_number (suc n) k')) ≡ true
paint-covers n k k' b e =
    let p = and_parts (eqb k (suc n)) b e in
    and_from b _ p.1 (in-front n k k' (inl (eqb-true k (suc n) p.0)))

write-off : (d : Desk) (n : ℕ) (w : Window) (m : ℕ) → (m ≡ n → ⊥) → window d m ≡ window (with_window d n w) m
write-off d n w m h = sym (window-other d n m w h)

move-covers : (d d' : Desk) (n i j : ℕ) (b : Bool) → ((m : ℕ) → (m ≡ n → ⊥) → window d m ≡ window d' m) → without n d.order ≡ without n d'.order →
    (turned d d' i j || (eqb (front_at d' i j) (suc n) && b)) ≡ true → pick (same_number (suc n) (front_at d i j)) true (same_number (suc n) (front_at d' i j)) ≡ true
move-covers d d' n i j b h o e =
    elim (or_cases (turned d d' i j) (eqb (front_at d' i j) (suc n) && b) e) [
      | inl q ↦ changed d d' n i j h o q
      | inr q ↦ in-front n _ _ (inr (eqb-true _ _ (and_parts _ _ q).0))
    ]

does-covers : (z : Sizes) (d : Desk) (e : Event) (i j : ℕ) → Covers d e i j (does z d e)
unfolding does hurt with_window with_order with_hands subject within
does-covers z d (make c x y w h) i j = λ e. absurd (both_ways false refl e)
does-covers z d (close c n) i j =
    by-pick (mine d c n) _ _ (Covers d (close c n) i j)
    (λ _ e. changed d _ n i j (λ m h. write-off d n nothing m h ∙ sym (order-window (with_window d n nothing) (without n d.order) m) ∙ sym (hands-window _ _ _ m)) (sym (without-twice n d.order)) e)
    (λ _ e. unchanged _ e)
does-covers z d (move c n x y) i j = by-pick (mine d c n) _ _ (Covers d (move c n x y) i j) (λ _ e. move-covers d _ n i j _ (write-off d n _) refl e) (λ _ e. move-covers d d n i j _ (λ _ _. refl) refl e)
does-covers z d (raise c n) i j = by-pick (mine d c n) _ _ (Covers d (raise c n) i j) (λ _ e. changed d _ n i j (λ m _. sym (order-window d _ m)) (without-raised n d.order) e) (λ _ e. unchanged _ e)
does-covers z d (show c n b) i j = by-pick (mine d c n) _ _ (Covers d (show c n b) i j) (λ _ e. changed d _ n i j (write-off d n _) refl e) (λ _ e. unchanged _ e)
does-covers z d (fill c n x y w h q) i j = λ e. paint-covers n _ _ _ e
does-covers z d (put c n x y l) i j = λ e. paint-covers n _ _ _ e
does-covers z d (copy c n x y w h a b) i j = λ e. paint-covers n _ _ _ e
does-covers z d (offer c l) i j = λ e. absurd (both_ways false refl e)
does-covers z d (point x y) i j = λ e. absurd (both_ways false refl e)
does-covers z d (press b) i j = λ e. absurd (both_ways false refl e)
does-covers z d (key k) i j = λ e. absurd (both_ways false refl e)
does-covers z d paste i j = λ e. absurd (both_ways false refl e)

-- the damage lies within what may be sent
pub damage-touched : (z : Sizes) (d : Desk) (e : Event) (i j : ℕ) → damage z d e i j ≡ true → touched z d e i j ≡ true
unfolding damage after touched
damage-touched z d e i j =
    by-pick (z.built (kind e)) (does z d e) (d, sender e)
    (λ (r : Desk × List (ℕ × Word)). ((z.built (kind e) && taken z d e) && hurt d r.0 e i j) ≡ true → by-subject d r.0 e i j ≡ true)
    (λ _ q. does-covers z d e i j (and_parts (z.built (kind e) && taken z d e) (hurt d (does z d e).0 e i j) q).1)
    (λ b q. absurd (both_ways (z.built (kind e)) b (and_parts _ _ (and_parts (z.built (kind e) && taken z d e) (hurt d d e i j) q).0).0))

-- an event that is about no window has no damage, nor has a request that is refused
eqb-suc : (n : ℕ) → eqb (suc n) 0 ≡ true → ⊥
eqb-suc n t = let e = eqb-true (suc n) 0 t in omega arith

about-none : (d d' : Desk) (e : Event) (i j : ℕ) → eqb (subject e) 0 ≡ true → hurt d d' e i j ≡ false
unfolding subject hurt
about-none d d' (make c x y w h) i j t = refl
about-none d d' (close c n) i j t = absurd (eqb-suc n t)
about-none d d' (move c n x y) i j t = absurd (eqb-suc n t)
about-none d d' (raise c n) i j t = absurd (eqb-suc n t)
about-none d d' (show c n b) i j t = absurd (eqb-suc n t)
about-none d d' (fill c n x y w h q) i j t = absurd (eqb-suc n t)
about-none d d' (put c n x y l) i j t = absurd (eqb-suc n t)
about-none d d' (copy c n x y w h a b) i j t = absurd (eqb-suc n t)
about-none d d' (offer c l) i j t = refl
about-none d d' (point x y) i j t = refl
about-none d d' (press b) i j t = refl
about-none d d' (key k) i j t = refl
about-none d d' paste i j t = refl

pub quiet-undamaged : (z : Sizes) (d : Desk) (e : Event) (i j : ℕ) → quiet z d e ≡ true → damage z d e i j ≡ false
unfolding damage
quiet-undamaged z d e i j t =
    elim (or_cases (eqb (subject e) 0) (not (taken z d e)) t) [
      | inl q ↦ and_right (z.built (kind e) && taken z d e) _ (about-none d (after z d e).0 e i j q)
      | inr q ↦ and_left _ (hurt d (after z d e).0 e i j) (and_right (z.built (kind e)) (taken z d e) (not-true (taken z d e) q))
    ]
