-- Windows that have the keys or the pointer, and what they are told.
use Rattle.std.proofs.Common.{◌≡◌, ℕ, suc, ◌-◌, ◌<◌, ◌≤◌, Bool, true, false, not, ◌&&◌, eqb, leb, List, [], ◌∷◌, length, get_or, ℤ, ◌-ℤ◌, Some, None, Option, sym, refl, ap, ◌∙◌, subst, arith, eq-eqb, ne_eqb, le-leb}
use lib.Dec.{eqb-suc-zero}
use borrow.Author.Tests.{lt-leb}
use Rattle.std.proofs.lemmas.Bool.{both_ways, and_left, and_right}
use Rattle.model.specs.Basics.{pick}
use Rattle.model.specs.Desk as desk
use Rattle.model.specs.Desk.{Desk, Event, Word, window, front, does, with_hands, with_pointer, with_clip, listener, clamp, told_key, told_clip, told_place, press_down, press_up, offer, point, press, key, paste, typed, pasted, at, pressed, done}
use Rattle.model.specs.Sound.{Held}
use Rattle.model.specs.System.{taken}
use Rattle.protocol.specs.Meaning.{part, lies}
use Rattle.protocol.specs.declared.types.Part.{Part}
use Rattle.protocol.specs.declared.types.Word.TheVariants.{Typed, Pasted, At, Pressed}
use Rattle.stack.specs.View.{view, slots_of, order_of, numbered}
use Rattle.stack.specs.Found.{Found}
use Rattle.stack.specs.Packed.{Packed}
use Rattle.stack.specs.declared.state.Window.{Window}
use Rattle.stack.specs.declared.state.Stack.{Stack}
use Rattle.stack.proofs.Slots.{window-at}
use Rattle.layout.specs.Sizes.{sizes_of}
use Rattle.layout.specs.State.{desk_of, clip_in, Good}
use Rattle.layout.specs.declared.sizes.Sizes.{Sizes}
use Rattle.layout.specs.declared.state.State.{State}
use Rattle.layout.specs.declared.state.Clipboard.{Clipboard}
use Rattle.desktop.specs.Does.{CarriedOut, told_of, told_had, answered}
use Rattle.desktop.specs.declared.told.Told.{Told}
use Rattle.desktop.specs.Person.{Known, HeardBy, Heard, Copied, NextClip}
use Rattle.desktop.proofs.Carrying.{carried}

-- a window's number + 1, or 0, as it was found on a desk
abbrev pub Listens : List ℕ → Desk → ℕ → Option (ℕ × Window) → Type 0
Listens p d m None = m ≡ 0
Listens p d m (Some f) = (m ≡ suc f.0) × (window d f.0 ≡ view p (Some f.1))

pub known-listens : (s : State) (p : List ℕ) (k : Option ℕ) (r : Option (ℕ × Window)) → Held (desk_of s p) (numbered k) → Known s k r → Listens p (desk_of s p) (numbered k) r
known-listens s p None r h e = subst (Listens p (desk_of s p) 0) (sym e) refl
known-listens s p (Some n) None h e =
    absurd (both_ways _ (ap (λ (w : desk.Window). w.there) (window-at s.stack (desk_of s p) p n refl ∙ ap (view p) e)) (h n refl))
known-listens s p (Some n) (Some f) h e =
    (ap suc (sym e.0), window-at s.stack (desk_of s p) p f.0 refl ∙ ap (λ m. view p (get_or (slots_of s.stack) m None)) e.0 ∙ ap (view p) e.1)

pub found-listens : (s : State) (p : List ℕ) (x y : ℤ) (r : Option (ℕ × Window)) → Found s.stack x y r → Listens p (desk_of s p) (front (desk_of s p) (order_of s.stack) x y) r
found-listens s p x y None e = e (desk_of s p) p refl
found-listens s p x y (Some f) e = (e.front (desk_of s p) p refl, e.value (desk_of s p) p refl)

pub heard-listens : (s : State) (p : List ℕ) (x y : ℤ) (k : Option ℕ) (r : Option (ℕ × Window)) → Held (desk_of s p) (numbered k) → HeardBy s k x y r →
    Listens p (desk_of s p) (pick (eqb (numbered k) 0) (front (desk_of s p) (order_of s.stack) x y) (numbered k)) r
heard-listens s p x y None r h e = found-listens s p x y r e
heard-listens s p x y (Some n) r h e = subst (λ b. Listens p (desk_of s p) (pick b (front (desk_of s p) (order_of s.stack) x y) (suc n)) r) (sym (eqb-suc-zero n)) (known-listens s p (Some n) r h e)

-- what is told of a key
pub key-none : (d : Desk) (k m : ℕ) → m ≡ 0 → [] ≡ told_key d k m
unfolding told_key
key-none d k m e = sym (ap (told_key d k) e)

pub key-some : (p : List ℕ) (d : Desk) (k m n : ℕ) (w : Window) → m ≡ suc n → window d n ≡ view p (Some w) → (w.owner, typed n k) ∷ [] ≡ told_key d k m
unfolding told_key
key-some p d k m n w e v = sym (ap (told_key d k) e ∙ ap (λ (u : desk.Window). (u.owner, typed n k) ∷ []) v)

-- of the clipboard
pub clip-none : (d : Desk) (m : ℕ) → m ≡ 0 → [] ≡ told_clip d m
unfolding told_clip
clip-none d m e = sym (ap (told_clip d) e)

clip-empty : (d : Desk) (n c : ℕ) → c ≡ 0 → pick {A = List (ℕ × Word)} (eqb c 0) [] (((window d n).owner, pasted n d.clip) ∷ []) ≡ []
clip-empty d n c e = rw e

pub clip-unowned : (d : Desk) (m n : ℕ) → m ≡ suc n → d.clip_of ≡ 0 → [] ≡ told_clip d m
unfolding told_clip
clip-unowned d m n e o = sym (ap (told_clip d) e ∙ clip-empty d n d.clip_of o)

clip-full : (d : Desk) (n c o : ℕ) → c ≡ suc o → pick {A = List (ℕ × Word)} (eqb c 0) [] (((window d n).owner, pasted n d.clip) ∷ []) ≡ ((window d n).owner, pasted n d.clip) ∷ []
clip-full d n c o e = rw (e, eqb-suc-zero o)

pub clip-some : (p : List ℕ) (d : Desk) (m n o : ℕ) (w : Window) (l : List ℕ) → m ≡ suc n → window d n ≡ view p (Some w) → d.clip_of ≡ suc o → l ≡ d.clip → (w.owner, pasted n l) ∷ [] ≡ told_clip d m
unfolding told_clip
clip-some p d m n o w l e v c q =
    sym (ap (told_clip d) e ∙ clip-full d n d.clip_of o c ∙ ap (λ (u : desk.Window). (u.owner, pasted n d.clip) ∷ []) v ∙ ap (λ b. (w.owner, pasted n b) ∷ []) (sym q))

-- of the pointer
pub place_none : (d : Desk) (x y : ℤ) (m : ℕ) → m ≡ 0 → [] ≡ told_place d x y m
unfolding told_place
place_none d x y m e = sym (ap (told_place d x y) e)

pub place-some : (p : List ℕ) (d : Desk) (x y : ℤ) (m n : ℕ) (w : Window) → m ≡ suc n → window d n ≡ view p (Some w) → (w.owner, at n (x -ℤ w.x) (y -ℤ w.y)) ∷ [] ≡ told_place d x y m
unfolding told_place
place-some p d x y m n w e v = sym (ap (told_place d x y) e ∙ ap (λ (u : desk.Window). (u.owner, at n (x -ℤ u.x) (y -ℤ u.y)) ∷ []) v)

-- an event that changes no window and no picture: nobody is told of it, or one program is
quiet : {e : Event} {s s' : State} {p : List ℕ} {t : Option Told} (z : Sizes) → t ≡ None → Good (sizes_of z) s (length p) → s'.stack ≡ s.stack → desk_of s' p ≡ (does (sizes_of z) (desk_of s p) e).0 →
    [] ≡ (does (sizes_of z) (desk_of s p) e).1 → CarriedOut (sizes_of z) e s p s' p t
quiet {e = e} {s = s} {s' = s'} {p = p} z q g w d t =
    subst (CarriedOut (sizes_of z) e s p s' p) (sym q)
    (carried z e s s' p p None refl g refl (ap (λ (k : Stack). k.limit) w) (subst (λ (k : Stack). Packed 0 (slots_of k)) (sym w) g.packed) d t)

told : {e : Event} {s s' : State} {p : List ℕ} {r : Told} (z : Sizes) → Good (sizes_of z) s (length p) → s'.stack ≡ s.stack → told_had (clip_in s) (Some r) ≡ true → desk_of s' p ≡ (does (sizes_of z) (desk_of s p) e).0 →
    told_of (clip_in s) (Some r) ≡ (does (sizes_of z) (desk_of s p) e).1 → CarriedOut (sizes_of z) e s p s' p (Some r)
told {e = e} {s = s} {s' = s'} {p = p} {r = r} z g w b d t =
    carried z e s s' p p (Some r) b g refl (ap (λ (k : Stack). k.limit) w) (subst (λ (k : Stack). Packed 0 (slots_of k)) (sym w) g.packed) d t

-- the state with other hands, or with the pointer at another place
abbrev pub hands : State → Option ℕ → Option ℕ → State
hands s k h = record { stack = s.stack; x = s.x; y = s.y; keys = k; held = h; clip = s.clip }

abbrev pub placed : State → ℤ → ℤ → State
placed s x y = record { stack = s.stack; x = x; y = y; keys = s.keys; held = s.held; clip = s.clip }

module _ {s : State} {p : List ℕ} (z : Sizes) (g : Good (sizes_of z) s (length p)) where
  pub key-quiet : {t : Option Told} {k : ℕ} → t ≡ None → Known s s.keys None → CarriedOut (sizes_of z) (key k) s p s p t
  unfolding does
  key-quiet {k = k} q e = quiet z q g refl refl (key-none (desk_of s p) k (numbered s.keys) (known-listens s p s.keys None (g.sound p).keys_there e))

  pub key-told : {k : ℕ} (n : ℕ) (w : Window) → Known s s.keys (Some (n, w)) → CarriedOut (sizes_of z) (key k) s p s p (Some (record { program = w.owner; word = Typed n k }))
  unfolding does
  key-told {k = k} n w e =
      let l = known-listens s p s.keys (Some (n, w)) (g.sound p).keys_there e in
      told z g refl refl refl (key-some p (desk_of s p) k (numbered s.keys) n w l.0 l.1)

  pub paste-quiet : {t : Option Told} → t ≡ None → Known s s.keys None → CarriedOut (sizes_of z) paste s p s p t
  unfolding does
  paste-quiet q e = quiet z q g refl refl (clip-none (desk_of s p) (numbered s.keys) (known-listens s p s.keys None (g.sound p).keys_there e))

  pub paste-unowned : {t : Option Told} (n : ℕ) (w : Window) → t ≡ None → Known s s.keys (Some (n, w)) → s.clip.owner ≡ None → CarriedOut (sizes_of z) paste s p s p t
  unfolding does
  paste-unowned n w q e o = quiet z q g refl refl (clip-unowned (desk_of s p) (numbered s.keys) n (known-listens s p s.keys (Some (n, w)) (g.sound p).keys_there e).0 (ap numbered o))

  pub paste-told : {q : Part} (n o : ℕ) (w : Window) → Known s s.keys (Some (n, w)) → s.clip.owner ≡ Some o → part 1 (clip_in s) q ≡ clip_in s → lies 1 (clip_in s) q ≡ true →
      CarriedOut (sizes_of z) paste s p s p (Some (record { program = w.owner; word = Pasted n q }))
  unfolding does
  paste-told n o w e c l b =
      let k = known-listens s p s.keys (Some (n, w)) (g.sound p).keys_there e in
      told z g refl b refl (clip-some p (desk_of s p) (numbered s.keys) n o w _ k.0 k.1 (ap numbered c) l)

  pub down-quiet : {t : Option Told} {k : Option ℕ} → t ≡ None → k ≡ None → Found s.stack s.x s.y None → CarriedOut (sizes_of z) (press true) s p (hands s k k) p t
  unfolding does press_down with_hands
  down-quiet {t = t} q ek f =
      subst (λ i. CarriedOut (sizes_of z) (press true) s p (hands s i i) p t) (sym ek)
      (let e = found-listens s p s.x s.y None f in
      quiet z q g refl (ap (λ m. (press_down (desk_of s p) m).0) (sym e)) (ap (λ m. (press_down (desk_of s p) m).1) (sym e)))

  pub down-told : {k : Option ℕ} (n : ℕ) (w : Window) → k ≡ Some n → Found s.stack s.x s.y (Some (n, w)) →
      CarriedOut (sizes_of z) (press true) s p (hands s k k) p (Some (record { program = w.owner; word = Pressed n true }))
  unfolding does press_down with_hands
  down-told n w ek f =
      subst (λ i. CarriedOut (sizes_of z) (press true) s p (hands s i i) p (Some (record { program = w.owner; word = Pressed n true }))) (sym ek)
      (let e = found-listens s p s.x s.y (Some (n, w)) f in
      told z g refl refl (ap (λ m. (press_down (desk_of s p) m).0) (sym e.0))
      (ap (λ (u : desk.Window). (u.owner, pressed n true) ∷ []) (sym e.1) ∙ ap (λ m. (press_down (desk_of s p) m).1) (sym e.0)))

  pub up-quiet : {t : Option Told} → t ≡ None → Known s s.held None → CarriedOut (sizes_of z) (press false) s p s p t
  unfolding does press_up
  up-quiet q k =
      let e = known-listens s p s.held None (g.sound p).held_there k in
      quiet z q g refl (ap (λ m. (press_up (desk_of s p) m).0) (sym e)) (ap (λ m. (press_up (desk_of s p) m).1) (sym e))

  pub up-told : (n : ℕ) (w : Window) → Known s s.held (Some (n, w)) → CarriedOut (sizes_of z) (press false) s p (hands s s.keys None) p (Some (record { program = w.owner; word = Pressed n false }))
  unfolding does press_up with_hands
  up-told n w k =
      let e = known-listens s p s.held (Some (n, w)) (g.sound p).held_there k in
      told z g refl refl (ap (λ m. (press_up (desk_of s p) m).0) (sym e.0))
      (ap (λ (u : desk.Window). (u.owner, pressed n false) ∷ []) (sym e.1) ∙ ap (λ m. (press_up (desk_of s p) m).1) (sym e.0))

  pub point-quiet : {t : Option Told} {x y : ℤ} (px py : ℤ) → px ≡ clamp x z.wide → py ≡ clamp y z.high → t ≡ None → Heard s px py None → CarriedOut (sizes_of z) (point x y) s p (placed s px py) p t
  unfolding does with_pointer
  point-quiet {x = x} {y = y} px py ex ey q h =
      quiet z q g refl (rw (ex, ey))
      (subst (λ a. [] ≡ told_place (desk_of s p) a (clamp y z.high) (listener (desk_of s p) a (clamp y z.high))) ex
      (subst (λ b. [] ≡ told_place (desk_of s p) px b (listener (desk_of s p) px b)) ey (place_none (desk_of s p) px py _ (heard-listens s p px py s.held None (g.sound p).held_there h))))

  pub point-told : {x y a b : ℤ} (px py : ℤ) (n : ℕ) (w : Window) → px ≡ clamp x z.wide → py ≡ clamp y z.high → Heard s px py (Some (n, w)) → a ≡ px -ℤ w.x → b ≡ py -ℤ w.y →
      CarriedOut (sizes_of z) (point x y) s p (placed s px py) p (Some (record { program = w.owner; word = At n a b }))
  unfolding does with_pointer
  point-told {x = x} {y = y} {a = a} {b = b} px py n w ex ey h ea eb =
      let l = heard-listens s p px py s.held (Some (n, w)) (g.sound p).held_there h in
      told z g refl refl (rw (ex, ey))
      (subst (λ i. (w.owner, at n a b) ∷ [] ≡ told_place (desk_of s p) i (clamp y z.high) (listener (desk_of s p) i (clamp y z.high))) ex
      (subst (λ j. (w.owner, at n a b) ∷ [] ≡ told_place (desk_of s p) px j (listener (desk_of s p) px j)) ey
      (rw (ea, eb) (place-some p (desk_of s p) px py _ n w l.0 l.1))))

-- an offer is taken if the window with the keys is the program's
pub offer-keyless : (d : Desk) (c m : ℕ) (l : List ℕ) → m ≡ 0 → ((not (eqb m 0) && eqb (window d (m - 1)).owner c) && leb (length l) 4096) ≡ false
offer-keyless d c m l e = rw e

pub offer-other : (p : List ℕ) (d : Desk) (c m n : ℕ) (w : Window) (l : List ℕ) → m ≡ suc n → window d n ≡ view p (Some w) → (w.owner ≡ c → ⊥) → ((not (eqb m 0) && eqb (window d (m - 1)).owner c) && leb (length l) 4096) ≡ false
offer-other p d c m n w l e v h =
    let k : m - 1 ≡ n = omega (arith, e) in
    and_left _ (leb (length l) 4096) (and_right (not (eqb m 0)) _ (ne_eqb (window d (m - 1)).owner c (λ q. h (sym (ap (λ (u : desk.Window). u.owner) (ap (window d) k ∙ v)) ∙ q))))

pub offer-long : (d : Desk) (c m : ℕ) (l : List ℕ) → 4096 < length l → ((not (eqb m 0) && eqb (window d (m - 1)).owner c) && leb (length l) 4096) ≡ false
offer-long d c m l h = and_right (not (eqb m 0) && eqb (window d (m - 1)).owner c) (leb (length l) 4096) (lt-leb (length l) 4096 h)

pub offer-yes : (p : List ℕ) (d : Desk) (c m n : ℕ) (w : Window) (l : List ℕ) → m ≡ suc n → window d n ≡ view p (Some w) → w.owner ≡ c → length l ≤ 4096 → ((not (eqb m 0) && eqb (window d (m - 1)).owner c) && leb (length l) 4096) ≡ true
offer-yes p d c m n w l e v h k =
    let j : m - 1 ≡ n = omega (arith, e) in
    let o : (window d (m - 1)).owner ≡ c = ap (λ (u : desk.Window). u.owner) (ap (window d) j ∙ v) ∙ h in
    let a : eqb m 0 ≡ false = ne_eqb m 0 (λ q. let f = e in absurd (omega (arith, f, q))) in
    rw (a, eq-eqb (window d (m - 1)).owner c o, le-leb (length l) 4096 k)

pub offer-taken : {t : Option Told} {k : Clipboard} (z : Sizes) (s : State) (p : List ℕ) (c : ℕ) (l : List ℕ) → t ≡ answered c true → Good (sizes_of z) s (length p) → NextClip (taken (sizes_of z) (desk_of s p) (offer c l)) c l (Some k) →
    CarriedOut (sizes_of z) (offer c l) s p (record { stack = s.stack; x = s.x; y = s.y; keys = s.keys; held = s.held; clip = k }) p t
unfolding does with_clip taken
offer-taken z s p c l q g (y, (o, b)) =
    subst (CarriedOut (sizes_of z) (offer c l) s p _ p) (sym q)
    (carried z (offer c l) s _ p p (answered c true) refl g refl refl g.packed (rw (y, o, b)) (rw y))

-- bytes that were copied for an offer that the desk takes
pub next-clip : (bs : List ℕ) (q : Part) (b : Bool) (c : ℕ) (r : Option Clipboard) → b ≡ true → Copied bs c q r → NextClip b c (part 1 bs q) r
next-clip bs q b c None y o = absurd o
next-clip bs q b c (Some k) y o = (y, o)
