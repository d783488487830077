-- A window that its owner changes.
use Rattle.std.proofs.Common.{◌≡◌, ℕ, Bool, true, false, List, map, set, ℤ, Some, Option, sym, ap, ◌∙◌}
use Rattle.model.specs.Basics.{pick}
use Rattle.model.specs.Desk as desk
use Rattle.model.specs.Desk.{Desk, window, mine}
use Rattle.stack.specs.declared.state.Window.{Window}
use Rattle.stack.specs.declared.state.Stack.{Stack}
use Rattle.stack.specs.View.{view, slots_of, windows_of, placed, shown_as, put_at, put_on}
use Rattle.stack.specs.Found.{Own, ChangedBy}
use Rattle.stack.proofs.Slots.{views-set}

owned_by : desk.Window → ℕ → desk.Window
owned_by v o = record { there = v.there; owner = o; shown = v.shown; x = v.x; y = v.y; wide = v.wide; high = v.high; dots = v.dots }

module _ (s : Stack) (c n : ℕ) (w : Window) (own : Own s c n w) where
  module _ (d : Desk) (p : List ℕ) (h : d.windows ≡ windows_of s p) where
    pub windows-by : (o : Option Window) (v : desk.Window) (us : List (Option Window)) → view p o ≡ v → us ≡ set (slots_of s) n o → map (view p) us ≡ pick (mine d c n) (set d.windows n v) d.windows
    windows-by o v us e f = rw (own.mine d p h, h, ← e) (views-set p (slots_of s) us n o f)

    pub place-by : (x y : ℤ) → view p (put_at x y (Some w)) ≡ placed (window d n) c x y
    unfolding owned_by
    place-by x y = rw (own.value d p h) (ap (owned_by (view p (put_at x y (Some w)))) own.owner)

    pub show-by : (b : Bool) → view p (put_on b (Some w)) ≡ shown_as (window d n) c b
    unfolding owned_by
    show-by b = rw (own.value d p h) (ap (owned_by (view p (put_on b (Some w)))) own.owner)

-- what a change by a closure makes of a desk, where it makes v of the window n
module _ (makes : Window → Window → Type 0) (s : Stack) (c n : ℕ) where
  pub answer-by : (r : Bool) (t : Stack) → ChangedBy makes s c n r t → (d : Desk) (p : List ℕ) → d.windows ≡ windows_of s p → r ≡ mine d c n
  answer-by true t h d p e = sym (h.2.mine d p e)
  answer-by false t h d p e = sym (h.0 d p e)

  pub changed-by : (f : Option Window → Option Window) (v : Desk → desk.Window) → ((w u : Window) → makes w u → Some u ≡ f (Some w)) →
      ((w : Window) → Own s c n w → (d : Desk) (p : List ℕ) → d.windows ≡ windows_of s p → view p (f (Some w)) ≡ v d) →
      (r : Bool) (t : Stack) → ChangedBy makes s c n r t → (d : Desk) (p : List ℕ) → d.windows ≡ windows_of s p → windows_of t p ≡ pick (mine d c n) (set d.windows n (v d)) d.windows
  changed-by f v g k true t h d p e = windows-by s c n h.0 h.2 d p e (f (Some h.0)) (v d) (slots_of t) (k h.0 h.2 d p e) (h.4 ∙ ap (set (slots_of s) n) (g h.0 h.1 h.3))
  changed-by f v g k false t h d p e = rw (h.0 d p e) (ap (map (view p)) h.1 ∙ sym e)
