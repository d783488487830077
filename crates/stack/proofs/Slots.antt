-- The windows by number: the state's, and those of a desk that it stands for.
use Rattle.std.proofs.Common.{◌≡◌, ℕ, zero, suc, ◌<◌, ◌≤◌, Bool, true, false, ◌&&◌, eqb, List, [], ◌∷◌, map, length, get_or, take, set, replicate, is_some, Some, None, Option, sym, refl, ap, ◌∙◌, inl, inr, arith}
use lib.LanesLaws.{map-replicate}
use Rattle.std.proofs.lemmas.List.{length-take, length-take-le, length-map, get_or-take, get_or_past, get_or-map, take-replicate, map-set}
use Rattle.std.proofs.lemmas.Bool.{cases_lt, false≢true, eqb-true}
use Rattle.std.specs.Option.{MatchOption}
use Rattle.std.specs.Bool.{then_some}
use Rattle.model.specs.Desk as desk
use Rattle.model.specs.Desk.{Desk, nothing, window, mine}
use Rattle.stack.specs.declared.state.Window.{Window}
use Rattle.stack.specs.declared.state.Stack.{Stack}
use Rattle.stack.specs.View.{view, slots_of, windows_of, order_of}
use Rattle.stack.specs.Found.{Owned}

pub length-slots : (s : Stack) → length (slots_of s) ≡ s.limit
length-slots s = length-take-le s.limit s.windows (omega arith)

pub order-few : (s : Stack) → length (order_of s) ≤ 255
order-few s = simp length-take (omega arith)

pub slot-in : {X : Type 0} (limit n : ℕ) (ws : List X) (d : X) → n < limit → get_or ws n d ≡ get_or (take limit ws) n d
slot-in limit n ws d h = sym (get_or-take limit ws n d h)

pub slot-past : {X : Type 0} (limit n : ℕ) (ws : List X) (d : X) → limit ≤ n → d ≡ get_or (take limit ws) n d
slot-past limit n ws d h = sym (get_or_past (take limit ws) n d (simp length-take (omega arith)))

-- where there is no window
pub slots-none : (limit n : ℕ) (ws : List (Option Window)) → ws ≡ replicate n None → limit ≤ n → take limit ws ≡ replicate limit None
slots-none limit n ws e h = rw e (take-replicate limit n None h)

pub views-none : (p : List ℕ) (n : ℕ) (ws : List (Option Window)) → ws ≡ replicate n None → map (view p) ws ≡ replicate n nothing
views-none p n ws e = rw e (map-replicate (view p) n None)

-- what is written at n
pub slot-set : {X : Type 0} (limit : ℕ) (ws : List X) (n : ℕ) (w : X) → take limit (set ws n w) ≡ set (take limit ws) n w
slot-set zero ws n w = refl
slot-set (suc m) [] n w = refl
slot-set (suc m) (x ∷ xs) zero w = refl
slot-set (suc m) (x ∷ xs) (suc n) w = ap (λ ys. x ∷ ys) (slot-set m xs n w)

pub views-set : (p : List ℕ) (ws us : List (Option Window)) (n : ℕ) (w : Option Window) → us ≡ set ws n w → map (view p) us ≡ set (map (view p) ws) n (view p w)
views-set p ws us n w e = ap (map (view p)) e ∙ map-set (view p) ws n w

-- a window that is there has a number below the limit
pub slot-low : (s : Stack) (n : ℕ) (w : Window) → get_or (slots_of s) n None ≡ Some w → n < s.limit
slot-low s n w e =
    elim (cases_lt n s.limit) [
      | inl h ↦ h
      | inr h ↦ let z : ◌≡◌ {A = Option Window} None (Some w) = slot-past s.limit n s.windows None h ∙ e in absurd (false≢true (ap is_some z))
    ]

-- the window n of a desk
pub window-at : (s : Stack) (d : Desk) (p : List ℕ) (n : ℕ) → d.windows ≡ windows_of s p → window d n ≡ view p (get_or (slots_of s) n None)
unfolding window
window-at s d p n e =
    elim (cases_lt n (length (slots_of s))) [
      | inl h ↦ rw e (get_or-map (view p) (slots_of s) n None nothing h)
      | inr h ↦ rw e (get_or_past (windows_of s p) n nothing (simp length-map h) ∙ sym (ap (view p) (get_or_past (slots_of s) n None h)))
    ]

-- whose the window n is, by the window
pub mine-by : (d : Desk) (c n : ℕ) (w : desk.Window) → w ≡ window d n → mine d c n ≡ (w.there && eqb w.owner c)
unfolding mine
mine-by d c n w e = ap (λ v. v.there && eqb v.owner c) (sym e)

-- the window that a test of its owner lets through
pub owned-by : (s : Stack) (c n : ℕ) (o r : Option Window) (says : Window → Bool → Type 0) → o ≡ get_or (slots_of s) n None →
    ((d : Desk) (p : List ℕ) → d.windows ≡ windows_of s p → view p o ≡ window d n) →
    MatchOption o (r ≡ None) (λ w. (b : Bool) × says w b × (r ≡ then_some b w)) → ((w : Window) (b : Bool) → says w b → b ≡ eqb w.owner c) → Owned s c n r
owned-by s c n None r says e f m t = rw m (λ d p h. mine-by d c n _ (f d p h))
owned-by s c n (Some w) r says e f m t = rw m.2 (go m.0 (t w m.0 m.1))
  where
    go : (b : Bool) → b ≡ eqb w.owner c → Owned s c n (then_some b w)
    go true q = record { slot = sym e; low = slot-low s n w (sym e); owner = eqb-true w.owner c (sym q); mine = λ d p h. mine-by d c n _ (f d p h) ∙ sym q; value = λ d p h. sym (f d p h) }
    go false q = λ d p h. mine-by d c n _ (f d p h) ∙ sym q
