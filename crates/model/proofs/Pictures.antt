-- A window's picture is changed by its owner's paint only: of any desk, with no invariant.
use Rattle.std.proofs.Common.{◌≡◌, ℕ, ◌+◌, ◌-◌, ◌*◌, true, false, not, ◌&&◌, eqb, ltb, leb, List, length, refl, ap, ◌∙◌, inl, inr}
use Rattle.std.proofs.lemmas.Bool.{and_parts, both_ways, cases_eq}
use Rattle.model.specs.Desk.{Desk, Sizes, Event, Window, Word, nothing, after, does, run, empty, window, with_window, with_order, with_hands, front, free, area, mine, box_fits, kind, sender, make, close, move, raise, show, fill, put, copy, offer, point, press, key, paste}
use Rattle.model.specs.Promise.{ByOwner, ByPaint, is_paint, painter}
use Rattle.model.proofs.Picks.{by-pick}
use Rattle.model.proofs.Windows.{window-other, order-window, hands-window, clip-window, pointer-window, down-window, up-window, not_free, not-mine, window-field, gone-window}

-- a window that is still there has the same dots
abbrev pub SameDots : Desk → ℕ → ℕ → ℕ → Desk × List (ℕ × Word) → Type 0
SameDots d n i j r = (window r.0 n).there ≡ true → (window r.0 n).dots i j ≡ (window d n).dots i j

all_same : (d d' : Desk) (n i j : ℕ) → window d' n ≡ window d n → (window d' n).dots i j ≡ (window d n).dots i j
all_same d d' n i j e = ap (λ (w : Window). w.dots i j) e

close-dots : (d : Desk) (m n i j k h : ℕ) (o : List ℕ) → (window (with_hands (with_order (with_window d m nothing) o) k h) n).there ≡ true →
    (window (with_hands (with_order (with_window d m nothing) o) k h) n).dots i j ≡ (window d n).dots i j
close-dots d m n i j k h o t =
    elim (cases_eq n m) [
      | inl q ↦ absurd (both_ways _ (ap (λ l. (window (with_hands (with_order (with_window d m nothing) o) k h) l).there) q ∙ ap (λ (w : Window). w.there) (gone-window d m k h o)) t)
      | inr q ↦ all_same d _ n i j (hands-window _ _ _ n ∙ order-window _ _ n ∙ window-other d m n nothing q)
    ]

does-dots : (z : Sizes) (d : Desk) (e : Event) (n i j : ℕ) → (window d n).there ≡ true → (is_paint e ≡ true → (window d n).owner ≡ painter e → ⊥) → SameDots d n i j (does z d e)
unfolding does is_paint painter
does-dots z d (make c x y w h) n i j t o =
    by-pick ((ltb c z.programs && ltb (free d.windows) z.windows) && ((leb 1 w && leb w z.side) && ((leb 1 h && leb h z.side) && leb (area d.windows + w * h) z.dots))) _ _ (SameDots d n i j)
    (λ _ _. all_same d _ n i j (order-window _ _ n ∙ window-other d _ n _ (not_free d n t))) (λ _ _. refl)
does-dots z d (close c m) n i j t o = by-pick (mine d c m) _ _ (SameDots d n i j) (λ _ u. close-dots d m n i j _ _ _ u) (λ _ _. refl)
does-dots z d (move c m x y) n i j t o = by-pick (mine d c m) _ _ (SameDots d n i j) (λ _ _. window-field (λ v. v.dots i j) d m n _ refl) (λ _ _. refl)
does-dots z d (raise c m) n i j t o = by-pick (mine d c m) _ _ (SameDots d n i j) (λ _ _. all_same d _ n i j (order-window _ _ n)) (λ _ _. refl)
does-dots z d (show c m b) n i j t o = by-pick (mine d c m) _ _ (SameDots d n i j) (λ _ _. window-field (λ v. v.dots i j) d m n _ refl) (λ _ _. refl)
does-dots z d (fill c m x y w h q) n i j t o =
    by-pick (mine d c m && box_fits (window d m) x y w h) _ _ (SameDots d n i j) (λ q _. all_same d _ n i j (window-other d m n _ (not-mine d c m n (and_parts _ _ q).0 (o refl)))) (λ _ _. refl)
does-dots z d (put c m x y l) n i j t o =
    by-pick (mine d c m && box_fits (window d m) x y (length l) 1) _ _ (SameDots d n i j) (λ q _. all_same d _ n i j (window-other d m n _ (not-mine d c m n (and_parts _ _ q).0 (o refl)))) (λ _ _. refl)
does-dots z d (copy c m x y w h a b) n i j t o =
    by-pick (mine d c m && (box_fits (window d m) x y w h && box_fits (window d m) a b w h)) _ _ (SameDots d n i j)
    (λ q _. all_same d _ n i j (window-other d m n _ (not-mine d c m n (and_parts _ _ q).0 (o refl)))) (λ _ _. refl)
does-dots z d (offer c l) n i j t o =
    by-pick ((not (eqb d.keys 0) && eqb (window d (d.keys - 1)).owner c) && leb (length l) 4096) _ _ (SameDots d n i j) (λ _ _. all_same d _ n i j (clip-window d _ _ n)) (λ _ _. refl)
does-dots z d (point x y) n i j t o = λ _. all_same d _ n i j (pointer-window d _ _ n)
does-dots z d (press true) n i j t o = λ _. all_same d _ n i j (down-window d n (front d d.order d.px d.py))
does-dots z d (press false) n i j t o = λ _. all_same d _ n i j (up-window d n d.held)
does-dots z d (key k) n i j t o = λ _. refl
does-dots z d paste n i j t o = λ _. refl

-- of any desk
pub after-dots : (z : Sizes) (d : Desk) (e : Event) (n i j : ℕ) → (window d n).there ≡ true → (is_paint e ≡ true → (window d n).owner ≡ painter e → ⊥) → SameDots d n i j (after z d e)
unfolding after
after-dots z d e n i j t o = by-pick (z.built (kind e)) (does z d e) (d, sender e) (SameDots d n i j) (λ _. does-dots z d e n i j t o) (λ _ _. refl)

pub by-paint : ByPaint
unfolding ByPaint
by-paint z es e n i j t u o = after-dots z (run z (empty z) es) e n i j t o u

pub by-owner : ByOwner
unfolding ByOwner ByPaint
by-owner z es e n i j t u o = by-paint z es e n i j t u (λ _. o)
