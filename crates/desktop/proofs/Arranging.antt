-- Windows that are moved, shown and raised.
use Rattle.std.proofs.Common.{◌≡◌, ℕ, zero, suc, ◌+◌, ◌<◌, Bool, true, false, eqb, ltb, List, [], ◌∷◌, ◌++◌, length, get_or, set, is_some, ℤ, Some, None, Option, sym, refl, ap, ◌∙◌, subst, inl, inr, arith, lt-ltb, eq-eqb, ne_eqb}
use Rattle.std.proofs.lemmas.Bool.{cases_eq, both_ways}
use Rattle.model.specs.Basics.{pick}
use Rattle.model.specs.Desk as desk
use Rattle.model.specs.Desk.{Desk, window, with_window, with_order, mine, without, does, move, show, raise, done}
use Rattle.model.specs.Promise.{times, one}
use Rattle.model.proofs.Windows.{mine-there}
use Rattle.model.proofs.Order.{one_same, one-other}
use Rattle.stack.specs.View.{view, slots_of, windows_of, order_of, placed, shown_as, put_at, put_on, size_of}
use Rattle.stack.specs.Packed.{Packed, Begins}
use Rattle.stack.specs.Found.{Owned}
use Rattle.stack.specs.declared.state.Window.{Window}
use Rattle.stack.specs.declared.state.Stack.{Stack}
use Rattle.stack.proofs.Slots.{order-few, window-at, slot-low}
use Rattle.stack.proofs.Rooms.{room-for-raise, room-for-one}
use Rattle.layout.specs.Sizes.{sizes_of}
use Rattle.layout.specs.State.{desk_of, Good}
use Rattle.layout.specs.declared.sizes.Sizes.{Sizes}
use Rattle.layout.specs.declared.state.State.{State}
use Rattle.desktop.specs.Does.{CarriedOut, answered}
use Rattle.desktop.specs.declared.told.Told.{Told}
use Rattle.desktop.proofs.Carrying.{carried, picked}

-- the state with other windows and another order
abbrev pub with-stack : State → Stack → State
with-stack s t = record { stack = t; x = s.x; y = s.y; keys = s.keys; held = s.held; clip = s.clip }

abbrev pub desk-with : Desk → List desk.Window → List ℕ → Desk
desk-with d ws o =
    record { windows = ws; order = o; px = d.px; py = d.py; keys = d.keys; held = d.held; clip_of = d.clip_of; clip = d.clip }

picked-window : (m : Bool) (d : Desk) (n : ℕ) (w : desk.Window) → desk-with d (pick m (set d.windows n w) d.windows) d.order ≡ pick m (with_window d n w) d
unfolding with_window
picked-window true d n w = refl
picked-window false d n w = refl

-- a window's change that leaves where its picture lies and how large it is
packed-put : (f : Option Window → Option Window) → ((at : ℕ) (o : Option Window) → Begins at o → Begins at (f o)) → ((o : Option Window) → size_of (f o) ≡ size_of o) →
    (at n : ℕ) (os : List (Option Window)) → Packed at os → Packed at (set os n (f (get_or os n None)))
packed-put f b z at n [] h = tt
packed-put f b z at zero (o ∷ os) h = (b at o h.0, subst (λ k. Packed (at + k) os) (sym (z o)) h.1)
packed-put f b z at (suc n) (o ∷ os) h = (h.0, packed-put f b z (at + size_of o) n os h.1)

module _ (z : Sizes) (s : State) (t : Stack) (p : List ℕ) (g : Good (sizes_of z) s (length p)) (o : order_of t ≡ order_of s.stack) (l : t.limit ≡ s.stack.limit) where
  -- one window is changed by f, where it is the program's
  changed-desk : (c n : ℕ) (w : desk.Window) → windows_of t p ≡ pick (mine (desk_of s p) c n) (set (windows_of s.stack p) n w) (windows_of s.stack p) →
      desk_of (with-stack s t) p ≡ pick (mine (desk_of s p) c n) (with_window (desk_of s p) n w) (desk_of s p)
  changed-desk c n w e = ap (λ ws. desk-with (desk_of s p) ws (order_of t)) e ∙ ap (desk-with (desk_of s p) _) o ∙ picked-window (mine (desk_of s p) c n) (desk_of s p) n w

  changed-packed : (b : Bool) (n : ℕ) (f : Option Window → Option Window) → ((at : ℕ) (o : Option Window) → Begins at o → Begins at (f o)) → ((o : Option Window) → size_of (f o) ≡ size_of o) →
      slots_of t ≡ pick b (set (slots_of s.stack) n (f (get_or (slots_of s.stack) n None))) (slots_of s.stack) → Packed 0 (slots_of t)
  changed-packed true n f h k e = subst (Packed 0) (sym e) (packed-put f h k 0 n (slots_of s.stack) g.packed)
  changed-packed false n f h k e = subst (Packed 0) (sym e) g.packed

  begins-at : (x y : ℤ) (at : ℕ) (o : Option Window) → Begins at o → Begins at (put_at x y o)
  begins-at x y at None h = tt
  begins-at x y at (Some w) h = h

  size-at : (x y : ℤ) (o : Option Window) → size_of (put_at x y o) ≡ size_of o
  size-at x y None = refl
  size-at x y (Some w) = refl

  begins-on : (v : Bool) (at : ℕ) (o : Option Window) → Begins at o → Begins at (put_on v o)
  begins-on v at None h = tt
  begins-on v at (Some w) h = h

  size-on : (v : Bool) (o : Option Window) → size_of (put_on v o) ≡ size_of o
  size-on v None = refl
  size-on v (Some w) = refl

  pub moved : {r : Option Told} (c n : ℕ) (x y x' y' : ℤ) (b : Bool) → r ≡ answered c b → b ≡ mine (desk_of s p) c n →
      windows_of t p ≡ pick (mine (desk_of s p) c n) (set (windows_of s.stack p) n (placed (window (desk_of s p) n) c x y)) (windows_of s.stack p) →
      slots_of t ≡ pick b (set (slots_of s.stack) n (put_at x' y' (get_or (slots_of s.stack) n None))) (slots_of s.stack) → CarriedOut (sizes_of z) (move c n x y) s p (with-stack s t) p r
  unfolding does
  moved c n x y x' y' b q a e f =
      subst (CarriedOut (sizes_of z) (move c n x y) s p (with-stack s t) p) (sym (q ∙ ap (answered c) a))
      (picked z (move c n x y) s (with-stack s t) p p c (mine (desk_of s p) c n) (with_window (desk_of s p) n (placed (window (desk_of s p) n) c x y)) g refl l
      (changed-packed b n (put_at x' y') (begins-at x' y') (size-at x' y') f) refl (changed-desk c n _ e))

  pub shown : {r : Option Told} (c n : ℕ) (v : Bool) (b : Bool) → r ≡ answered c b → b ≡ mine (desk_of s p) c n →
      windows_of t p ≡ pick (mine (desk_of s p) c n) (set (windows_of s.stack p) n (shown_as (window (desk_of s p) n) c v)) (windows_of s.stack p) →
      slots_of t ≡ pick b (set (slots_of s.stack) n (put_on v (get_or (slots_of s.stack) n None))) (slots_of s.stack) → CarriedOut (sizes_of z) (show c n v) s p (with-stack s t) p r
  unfolding does
  shown c n v b q a e f =
      subst (CarriedOut (sizes_of z) (show c n v) s p (with-stack s t) p) (sym (q ∙ ap (answered c) a))
      (picked z (show c n v) s (with-stack s t) p p c (mine (desk_of s p) c n) (with_window (desk_of s p) n (shown_as (window (desk_of s p) n) c v)) g refl l
      (changed-packed b n (put_on v) (begins-on v) (size-on v) f) refl (changed-desk c n _ e))

-- counting by tests, and the room in the order that follows
one-is : (n m : ℕ) → one n m ≡ pick (eqb n m) 1 0
one-is n m = elim (cases_eq n m) [ inl e ↦ ap (one n) (sym e) ∙ one_same n ∙ sym (rw (eq-eqb n m e)) | inr e ↦ one-other n m e ∙ sym (rw (ne_eqb n m e)) ]

times_none : (n : ℕ) → times n [] ≡ 0
unfolding times
times_none n = refl

times_more : (n m : ℕ) (ms : List ℕ) → times n (m ∷ ms) ≡ pick (eqb n m) 1 0 + times n ms
unfolding times
times_more n m ms = ap (λ k. k + times n ms) (one-is n m)

pub raise-room : (z : Sizes) (s : State) (p : List ℕ) (c n : ℕ) → Good (sizes_of z) s (length p) → mine (desk_of s p) c n ≡ true → length (without n (order_of s.stack)) < 255
raise-room z s p c n g m =
    room-for-raise times times_none times_more 255 n (order_of s.stack) (order-few s.stack) ((g.sound p).once n ∙ ap (λ b. pick b 1 0) (mine-there (desk_of s p) c n m))

-- whether the window n is the program's, by whether it was found
pub mine-found : (s : State) (p : List ℕ) (c n : ℕ) (o : Option Window) → Owned s.stack c n o → mine (desk_of s p) c n ≡ is_some o
mine-found s p c n None h = h (desk_of s p) p refl
mine-found s p c n (Some w) h = h.mine (desk_of s p) p refl

pub raised : {r : Option Told} (z : Sizes) (s : State) (t : Stack) (p : List ℕ) (c n : ℕ) (b : Bool) → r ≡ answered c b → Good (sizes_of z) s (length p) → mine (desk_of s p) c n ≡ true → slots_of t ≡ slots_of s.stack → t.limit ≡ s.stack.limit →
    b ≡ ltb (length (without n (order_of s.stack))) 255 → order_of t ≡ pick b (without n (order_of s.stack) ++ n ∷ []) (order_of s.stack) →
    CarriedOut (sizes_of z) (raise c n) s p (with-stack s t) p r
unfolding does with_order
raised z s t p c n b q g m e l a o =
    let r : b ≡ true = a ∙ lt-ltb _ _ (raise-room z s p c n g m) in
    subst (CarriedOut (sizes_of z) (raise c n) s p (with-stack s t) p) (sym (q ∙ ap (answered c) r))
    (carried z (raise c n) s (with-stack s t) p p (answered c true) refl g refl l (subst (Packed 0) (sym e) g.packed) (rw (m, e, o, r)) (rw m))

-- where there is a free number the order has room for one more
pub make-room : (z : Sizes) (s : State) (p : List ℕ) (n : ℕ) → Good (sizes_of z) s (length p) → n < s.stack.limit → get_or (slots_of s.stack) n None ≡ None → length (order_of s.stack) < 255
make-room z s p n g l e =
    let r = room-for-one times times_none times_more s.stack.limit (order_of s.stack) (λ m. (window (desk_of s p) m).there) (g.sound p).once low n l (there n ∙ ap (λ o. (view p o).there) e) in
    let m = s.stack.low in
    omega arith
  where
    there : (m : ℕ) → (window (desk_of s p) m).there ≡ (view p (get_or (slots_of s.stack) m None)).there
    there m = ap (λ (w : desk.Window). w.there) (window-at s.stack (desk_of s p) p m refl)

    some : (o : Option Window) (m : ℕ) → get_or (slots_of s.stack) m None ≡ o → (view p o).there ≡ true → m < s.stack.limit
    some None m q t = absurd (both_ways false refl t)
    some (Some w) m q t = slot-low s.stack m w q

    low : (m : ℕ) → (window (desk_of s p) m).there ≡ true → m < s.stack.limit
    low m t = some (get_or (slots_of s.stack) m None) m refl (sym (there m) ∙ t)
