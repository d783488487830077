-- Windows by number: what a change of the desk leaves of them.
use Rattle.std.proofs.Common.{◌≡◌, ℕ, zero, suc, true, false, List, [], ◌∷◌, get_or, set, ℤ, refl, ap, ◌∙◌, get_or-set_other, eqb-true}
use Rattle.std.proofs.lemmas.Bool.{and_parts, both_ways}
use Rattle.model.specs.Desk.{Desk, Window, Word, nothing, window, with_window, with_order, with_pointer, with_hands, with_clip, free, mine, painted, press_down, press_up}
use Rattle.model.proofs.Picks.{by-pick}

-- a field that a write leaves as it was is the same at every window
pub field-set : {X : Type 0} (f : Window → X) (ws : List Window) (n m : ℕ) (w : Window) → f w ≡ f (get_or ws n nothing) → f (get_or (set ws n w) m nothing) ≡ f (get_or ws m nothing)
field-set f [] n m w e = refl
field-set f (v ∷ ws) zero zero w e = e
field-set f (v ∷ ws) zero (suc m) w e = refl
field-set f (v ∷ ws) (suc n) zero w e = refl
field-set f (v ∷ ws) (suc n) (suc m) w e = field-set f ws n m w e

-- the first free number is not there
pub free-is : (ws : List Window) → (get_or ws (free ws) nothing).there ≡ false
unfolding free
free-is [] = refl
free-is (w ∷ ws) = by-pick w.there (suc (free ws)) 0 (λ k. (get_or (w ∷ ws) k nothing).there ≡ false) (λ _. free-is ws) (λ e. e)

pub mine-there : (d : Desk) (c n : ℕ) → mine d c n ≡ true → (window d n).there ≡ true
unfolding mine
mine-there d c n e = (and_parts _ _ e).0

pub mine-owner : (d : Desk) (c n : ℕ) → mine d c n ≡ true → (window d n).owner ≡ c
unfolding mine
mine-owner d c n e = eqb-true _ _ (and_parts _ _ e).1

pub window-other : (d : Desk) (m n : ℕ) (w : Window) → (n ≡ m → ⊥) → window (with_window d m w) n ≡ window d n
unfolding window with_window
window-other d m n w h = get_or-set_other d.windows m n w nothing h

pub order-window : (d : Desk) (o : List ℕ) (n : ℕ) → window (with_order d o) n ≡ window d n
unfolding window with_order
order-window d o n = refl

pub hands-window : (d : Desk) (k h : ℕ) (n : ℕ) → window (with_hands d k h) n ≡ window d n
unfolding window with_hands
hands-window d k h n = refl

pub clip-window : (d : Desk) (c : ℕ) (l : List ℕ) (n : ℕ) → window (with_clip d c l) n ≡ window d n
unfolding window with_clip
clip-window d c l n = refl

pub pointer-window : (d : Desk) (x y : ℤ) (n : ℕ) → window (with_pointer d x y) n ≡ window d n
unfolding window with_pointer
pointer-window d x y n = refl

pub not_free : (d : Desk) (n : ℕ) → (window d n).there ≡ true → n ≡ free d.windows → ⊥
unfolding window
not_free d n h e = both_ways _ (free-is d.windows) (rw e at h)

pub not-mine : (d : Desk) (c m n : ℕ) → mine d c m ≡ true → ((window d n).owner ≡ c → ⊥) → n ≡ m → ⊥
not-mine d c m n t h e = h (ap (λ k. (window d k).owner) e ∙ mine-owner d c m t)

pub gone-here : (ws : List Window) (n : ℕ) → get_or (set ws n nothing) n nothing ≡ nothing
gone-here [] n = refl
gone-here (w ∷ ws) zero = refl
gone-here (w ∷ ws) (suc n) = gone-here ws n

pub painted_there : (w : Window) (f : ℕ → ℕ → ℕ) → (painted w f).there ≡ w.there
unfolding painted
painted_there w f = refl

pub window-field : {X : Type 0} (f : Window → X) (d : Desk) (n m : ℕ) (w : Window) → f w ≡ f (window d n) → f (window (with_window d n w) m) ≡ f (window d m)
unfolding window with_window
window-field f d n m w e = field-set f d.windows n m w e

pub free-window : (d : Desk) → (window d (free d.windows)).there ≡ false
unfolding window
free-window d = free-is d.windows

pub gone-window : (d : Desk) (n k h : ℕ) (o : List ℕ) → window (with_hands (with_order (with_window d n nothing) o) k h) n ≡ nothing
unfolding window with_hands with_order with_window
gone-window d n k h o = gone-here d.windows n

-- an event's outcome in which the window n is as it was
abbrev pub SameWindow : Desk → ℕ → Desk × List (ℕ × Word) → Type 0
SameWindow d n r = window r.0 n ≡ window d n

pub down-window : (d : Desk) (n k : ℕ) → SameWindow d n (press_down d k)
unfolding press_down
down-window d n zero = hands-window d 0 0 n
down-window d n (suc k) = hands-window d (suc k) (suc k) n

pub up-window : (d : Desk) (n k : ℕ) → SameWindow d n (press_up d k)
unfolding press_up
up-window d n zero = refl
up-window d n (suc k) = hands-window d d.keys 0 n
