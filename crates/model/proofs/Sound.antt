-- Every event keeps a desk sound.
use Rattle.std.proofs.Common.{◌≡◌, ℕ, zero, suc, ◌+◌, ◌-◌, ◌*◌, ◌<◌, ◌≤◌, true, false, not, ◌&&◌, eqb, ltb, leb, List, [], ◌∷◌, ◌++◌, length, get_or, set, replicate, ℤ, sym, refl, ap, ◌∙◌, subst, inl, inr, arith, length-set, get_or-set_other, get_or-set_same, ltb-true, leb-true}
use lib.ListN.{length-replicate}
use borrow.Author.Tests.{eqb-false}
use Rattle.std.proofs.lemmas.Bool.{and_parts, both_ways, cases_eq}
use Rattle.model.specs.Basics.{pick}
use Rattle.model.specs.Desk.{Desk, Sizes, Event, Window, Word, nothing, after, does, run, empty, window, with_window, with_order, with_pointer, with_hands, with_clip, front, free, area, without, mine, painted, box_fits, kind, sender, press_down, press_up, make, close, move, raise, show, fill, put, copy, offer, point, press, key, paste}
use Rattle.model.specs.Sound.{Held, Shaped, ShapedIf, Sound, StaysSound}
use Rattle.model.specs.Promise.{times, KeysTo, HeldBy, Ordered}
use Rattle.model.proofs.Picks.{by-pick}
use Rattle.model.proofs.Windows.{field-set, free-is, mine-there, mine-owner, gone-here}
use Rattle.model.proofs.Order.{times-append, times-single-same, times-single-other, times-without-same, times-without-other}
use Rattle.model.proofs.Fronts.{front-there}

-- a property of windows that one which is written has too
at_set : (P : Window → Type 0) (ws : List Window) (n m : ℕ) (w : Window) → P w → P (get_or ws m nothing) → P (get_or (set ws n w) m nothing)
at_set P [] n m w p q = q
at_set P (v ∷ ws) zero zero w p q = p
at_set P (v ∷ ws) zero (suc m) w p q = q
at_set P (v ∷ ws) (suc n) zero w p q = q
at_set P (v ∷ ws) (suc n) (suc m) w p q = at_set P ws n m w p q

-- the dots of a window's picture, and of all pictures as one window is written
abbrev pub size_of : Window → ℕ
size_of w = pick w.there (w.wide * w.high) 0

pub area_same : (ws : List Window) (n : ℕ) (w : Window) → size_of w ≡ size_of (get_or ws n nothing) → area (set ws n w) ≡ area ws
unfolding area
area_same [] n w e = refl
area_same (v ∷ ws) zero w e = ap (λ k. k + area ws) e
area_same (v ∷ ws) (suc n) w e = ap (λ k. size_of v + k) (area_same ws n w e)

pub area-most : (ws : List Window) (n : ℕ) (w : Window) → area (set ws n w) ≤ area ws + size_of w
unfolding area
area-most [] n w = omega arith
area-most (v ∷ ws) zero w = omega arith
area-most (v ∷ ws) (suc n) w = let h = area-most ws n w in omega arith

-- nothing is there at the start
replicate-there : (k n : ℕ) → (get_or (replicate k nothing) n nothing).there ≡ false
replicate-there zero n = refl
replicate-there (suc k) zero = refl
replicate-there (suc k) (suc n) = replicate-there k n

area-none : (k : ℕ) → area (replicate k nothing) ≡ 0
unfolding area
area-none zero = refl
area-none (suc k) = ap (λ n. 0 + n) (area-none k)

pub empty-sound : (z : Sizes) → Sound z (empty z)
unfolding empty times window
empty-sound z =
    record {
      len = length-replicate z.windows nothing;
      keys_there = λ n e. absurd (omega arith);
      held_there = λ n e. absurd (omega arith);
      once = λ n. rw (replicate-there z.windows n);
      shaped = λ n t. absurd (both_ways _ (replicate-there z.windows n) t);
      few = let a = area-none z.windows in omega arith;
    }

-- a window is written that is there as before, and has as many dots
pub write-sound : (z : Sizes) (d : Desk) (n : ℕ) (w : Window) → Sound z d → w.there ≡ (window d n).there → size_of w ≡ size_of (window d n) → ShapedIf z w → Sound z (with_window d n w)
unfolding with_window window
write-sound z d n w s e a sh =
    record {
      len = length-set d.windows n w ∙ s.len;
      keys_there = λ m q. same m ∙ s.keys_there m q;
      held_there = λ m q. same m ∙ s.held_there m q;
      once = λ m. s.once m ∙ ap (λ b. pick b 1 0) (sym (same m));
      shaped = λ m. at_set (ShapedIf z) d.windows n m w sh (s.shaped m);
      few = let f = s.few in let g = area_same d.windows n w a in omega arith;
    }
  where
    same : (m : ℕ) → (get_or (set d.windows n w) m nothing).there ≡ (get_or d.windows m nothing).there
    same m = field-set (λ v. v.there) d.windows n m w e

pub hands_sound : (z : Sizes) (d : Desk) (k h : ℕ) → Sound z d → Held d k → Held d h → Sound z (with_hands d k h)
unfolding with_hands window
hands_sound z d k h s p q = record { len = s.len; keys_there = p; held_there = q; once = s.once; shaped = s.shaped; few = s.few }

pub raise-sound : (z : Sizes) (d : Desk) (n : ℕ) → Sound z d → (window d n).there ≡ true → Sound z (with_order d (without n d.order ++ n ∷ []))
unfolding with_order window
raise-sound z d n s e = record { len = s.len; keys_there = s.keys_there; held_there = s.held_there; once = again; shaped = s.shaped; few = s.few }
  where
    again : (m : ℕ) → times m (without n d.order ++ n ∷ []) ≡ pick (get_or d.windows m nothing).there 1 0
    again m =
        elim (cases_eq m n) [
          | inl q ↦ rw (times-append, q, times-without-same, times-single-same, e)
          | inr q ↦ let a = times-append m (without n d.order) (n ∷ []) in let b = times-without-other m n d.order q in let c = times-single-other m n q in
              let g : times m (without n d.order ++ n ∷ []) ≡ times m d.order = omega arith in g ∙ s.once m
        ]

-- a window is taken away: it is in the order no more, and has neither keys nor pointer
gone-there : (ws : List Window) (n m : ℕ) → (m ≡ n → ⊥) → (get_or (set ws n nothing) m nothing).there ≡ (get_or ws m nothing).there
gone-there ws n m h = ap (λ (w : Window). w.there) (get_or-set_other ws n m nothing nothing h)

pub close-sound : (z : Sizes) (d : Desk) (n : ℕ) → Sound z d →
    Sound z (with_hands (with_order (with_window d n nothing) (without n d.order)) (pick (eqb d.keys (suc n)) 0 d.keys) (pick (eqb d.held (suc n)) 0 d.held))
unfolding with_hands with_order with_window window
close-sound z d n s =
    record {
      len = length-set d.windows n nothing ∙ s.len;
      keys_there = left d.keys s.keys_there;
      held_there = left d.held s.held_there;
      once = again;
      shaped = λ m. at_set (ShapedIf z) d.windows n m nothing (λ t. absurd (both_ways false refl t)) (s.shaped m);
      few = let f = s.few in let a = area-most d.windows n nothing in omega arith;
    }
  where
    left : (k : ℕ) → ((m : ℕ) → k ≡ suc m → (get_or d.windows m nothing).there ≡ true) → (m : ℕ) → pick (eqb k (suc n)) 0 k ≡ suc m → (get_or (set d.windows n nothing) m nothing).there ≡ true
    left k h m =
        by-pick (eqb k (suc n)) 0 k (λ r. r ≡ suc m → (get_or (set d.windows n nothing) m nothing).there ≡ true) (λ _ q. absurd (omega arith))
        (λ ne q. gone-there d.windows n m (λ mn. eqb-false k (suc n) ne (q ∙ ap suc mn)) ∙ h m q)

    again : (m : ℕ) → times m (without n d.order) ≡ pick (get_or (set d.windows n nothing) m nothing).there 1 0
    again m =
        elim (cases_eq m n) [
          | inl q ↦ rw (q, times-without-same, gone-here d.windows n)
          | inr q ↦ times-without-other m n d.order q ∙ s.once m ∙ ap (λ b. pick b 1 0) (sym (gone-there d.windows n m q))
        ]

-- a window is made at the first free number
pub make-sound : (z : Sizes) (d : Desk) (w : Window) → Sound z d → w.there ≡ true → Shaped z w → area d.windows + w.wide * w.high ≤ z.dots → free d.windows < z.windows →
    Sound z (with_order (with_window d (free d.windows) w) (d.order ++ free d.windows ∷ []))
unfolding with_order with_window window
make-sound z d w s e sh fit lt =
    record {
      len = length-set d.windows (free d.windows) w ∙ s.len;
      keys_there = λ m q. kept m (s.keys_there m q);
      held_there = λ m q. kept m (s.held_there m q);
      once = again;
      shaped = λ m. at_set (ShapedIf z) d.windows (free d.windows) m w (λ _. sh) (s.shaped m);
      few = let a = area-most d.windows (free d.windows) w in let b : size_of w ≡ w.wide * w.high = rw e in omega arith;
    }
  where
    f : ℕ
    f = free d.windows

    new : get_or (set d.windows (free d.windows) w) (free d.windows) nothing ≡ w
    new = get_or-set_same d.windows (free d.windows) w nothing (let l = s.len in omega arith)

    kept : (m : ℕ) → (get_or d.windows m nothing).there ≡ true → (get_or (set d.windows (free d.windows) w) m nothing).there ≡ true
    kept m h =
        elim (cases_eq m (free d.windows)) [ inl q ↦ rw (q, new) e | inr q ↦ ap (λ (v : Window). v.there) (get_or-set_other d.windows (free d.windows) m w nothing q) ∙ h ]

    again : (m : ℕ) → times m (d.order ++ free d.windows ∷ []) ≡ pick (get_or (set d.windows (free d.windows) w) m nothing).there 1 0
    again m =
        elim (cases_eq m (free d.windows)) [
          | inl q ↦ rw (times-append, q, times-single-same, new, e)
              (let o : times (free d.windows) d.order ≡ 0 = s.once (free d.windows) ∙ ap (λ b. pick b 1 0) (free-is d.windows) in omega arith)
          | inr q ↦ let a = times-append m d.order (free d.windows ∷ []) in let c = times-single-other m (free d.windows) q in
              let g : times m (d.order ++ free d.windows ∷ []) ≡ times m d.order = omega arith in
              g ∙ s.once m ∙ ap (λ (v : Window). pick v.there 1 0) (sym (get_or-set_other d.windows (free d.windows) m w nothing q))
        ]

-- one event
abbrev Keeps : Sizes → Desk × List (ℕ × Word) → Type 0
Keeps z r = Sound z r.0

clip_sound : (z : Sizes) (d : Desk) (c : ℕ) (l : List ℕ) → Sound z d → Sound z (with_clip d c l)
unfolding with_clip window
clip_sound z d c l s = record { len = s.len; keys_there = s.keys_there; held_there = s.held_there; once = s.once; shaped = s.shaped; few = s.few }

pointer-sound : (z : Sizes) (d : Desk) (x y : ℤ) → Sound z d → Sound z (with_pointer d x y)
unfolding with_pointer window
pointer-sound z d x y s = record { len = s.len; keys_there = s.keys_there; held_there = s.held_there; once = s.once; shaped = s.shaped; few = s.few }

none-held : (d : Desk) → Held d 0
none-held d n e = absurd (omega arith)

one-held : (d : Desk) (m : ℕ) → (window d m).there ≡ true → Held d (suc m)
one-held d m h n e = let q : m ≡ n = omega arith in subst (λ k. (window d k).there ≡ true) q h

down-sound : (z : Sizes) (d : Desk) (k : ℕ) → Sound z d → Held d k → Sound z (press_down d k).0
unfolding press_down
down-sound z d zero s h = hands_sound z d 0 0 s (none-held d) (none-held d)
down-sound z d (suc n) s h = hands_sound z d (suc n) (suc n) s h h

up-sound : (z : Sizes) (d : Desk) (k : ℕ) → Sound z d → Sound z (press_up d k).0
unfolding press_up
up-sound z d zero s = s
up-sound z d (suc n) s = hands_sound z d d.keys 0 s s.keys_there (none-held d)

-- a window of c that is moved, shown or painted
same_shape : (z : Sizes) (d : Desk) (c n : ℕ) (w : Window) → Sound z d → mine d c n ≡ true → w.there ≡ (window d n).there → w.owner ≡ (window d n).owner → w.wide ≡ (window d n).wide → w.high ≡ (window d n).high → Sound z (with_window d n w)
same_shape z d c n w s t e o a b =
    let sh = s.shaped n (mine-there d c n t) in
    write-sound z d n w s e (rw (e, a, b))
    (λ _. record {
      owner = subst (λ k. k < z.programs) (sym o) sh.owner;
      wide_least = subst (λ k. 1 ≤ k) (sym a) sh.wide_least;
      wide_most = subst (λ k. k ≤ z.side) (sym a) sh.wide_most;
      high_least = subst (λ k. 1 ≤ k) (sym b) sh.high_least;
      high_most = subst (λ k. k ≤ z.side) (sym b) sh.high_most;
    })

paint-sound : (z : Sizes) (d : Desk) (c n : ℕ) (f : ℕ → ℕ → ℕ) → Sound z d → mine d c n ≡ true → Sound z (with_window d n (painted (window d n) f))
unfolding painted
paint-sound z d c n f s t = same_shape z d c n (painted (window d n) f) s t refl refl refl refl

pub does-sound : (z : Sizes) (d : Desk) (e : Event) → Sound z d → Sound z (does z d e).0
unfolding does
does-sound z d (make c x y w h) s =
    by-pick ((ltb c z.programs && ltb (free d.windows) z.windows) && ((leb 1 w && leb w z.side) && ((leb 1 h && leb h z.side) && leb (area d.windows + w * h) z.dots))) _ _ (Keeps z)
    (λ t.
    let p = and_parts (ltb c z.programs && ltb (free d.windows) z.windows) _ t in
    let q = and_parts (ltb c z.programs) (ltb (free d.windows) z.windows) p.0 in
    let r = and_parts (leb 1 w && leb w z.side) _ p.1 in
    let a = and_parts (leb 1 w) (leb w z.side) r.0 in
    let u = and_parts (leb 1 h && leb h z.side) _ r.1 in
    let b = and_parts (leb 1 h) (leb h z.side) u.0 in
    make-sound z d _ s refl
    (record { owner = ltb-true _ _ q.0; wide_least = leb-true _ _ a.0; wide_most = leb-true _ _ a.1; high_least = leb-true _ _ b.0; high_most = leb-true _ _ b.1 })
    (leb-true _ _ u.1) (ltb-true _ _ q.1))
    (λ _. s)
does-sound z d (close c n) s = by-pick (mine d c n) _ _ (Keeps z) (λ t. close-sound z d n s) (λ _. s)
does-sound z d (move c n x y) s = by-pick (mine d c n) _ _ (Keeps z) (λ t. same_shape z d c n _ s t (sym (mine-there d c n t)) (sym (mine-owner d c n t)) refl refl) (λ _. s)
does-sound z d (raise c n) s = by-pick (mine d c n) _ _ (Keeps z) (λ t. raise-sound z d n s (mine-there d c n t)) (λ _. s)
does-sound z d (show c n b) s = by-pick (mine d c n) _ _ (Keeps z) (λ t. same_shape z d c n _ s t (sym (mine-there d c n t)) (sym (mine-owner d c n t)) refl refl) (λ _. s)
does-sound z d (fill c n x y w h q) s =
    by-pick (mine d c n && box_fits (window d n) x y w h) _ _ (Keeps z) (λ t. paint-sound z d c n _ s (and_parts (mine d c n) _ t).0) (λ _. s)
does-sound z d (put c n x y l) s =
    by-pick (mine d c n && box_fits (window d n) x y (length l) 1) _ _ (Keeps z) (λ t. paint-sound z d c n _ s (and_parts (mine d c n) _ t).0) (λ _. s)
does-sound z d (copy c n x y w h a b) s =
    by-pick (mine d c n && (box_fits (window d n) x y w h && box_fits (window d n) a b w h)) _ _ (Keeps z) (λ t. paint-sound z d c n _ s (and_parts (mine d c n) _ t).0) (λ _. s)
does-sound z d (offer c l) s =
    by-pick ((not (eqb d.keys 0) && eqb (window d (d.keys - 1)).owner c) && leb (length l) 4096) _ _ (Keeps z) (λ t. clip_sound z d _ _ s) (λ _. s)
does-sound z d (point x y) s = pointer-sound z d _ _ s
does-sound z d (press true) s = down-sound z d (front d d.order d.px d.py) s (λ n e. front-there d d.order d.px d.py n e)
does-sound z d (press false) s = up-sound z d d.held s
does-sound z d (key k) s = s
does-sound z d paste s = s

pub after-sound : (z : Sizes) (d : Desk) (e : Event) → Sound z d → Sound z (after z d e).0
unfolding after
after-sound z d e s = by-pick (z.built (kind e)) (does z d e) (d, sender e) (Keeps z) (λ _. does-sound z d e s) (λ _. s)

pub run_sound : (z : Sizes) (es : List Event) (d : Desk) → Sound z d → Sound z (run z d es)
unfolding run
run_sound z [] d s = s
run_sound z (e ∷ es) d s = run_sound z es (after z d e).0 (after-sound z d e s)

pub sound : StaysSound
unfolding StaysSound
sound z es = run_sound z es (empty z) (empty-sound z)

pub sound-at : (z : Sizes) (es : List Event) → Sound z (run z (empty z) es)
unfolding StaysSound
sound-at z es = sound z es

pub keys-to : KeysTo
unfolding KeysTo
keys-to z es n e = (sound-at z es).keys_there n e

pub ordered : Ordered
unfolding Ordered
ordered z es n = (sound-at z es).once n

pub held_by : HeldBy
unfolding HeldBy
held_by z es n e = (sound-at z es).held_there n e
