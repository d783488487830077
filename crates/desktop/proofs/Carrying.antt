-- What carrying an event out owes: that the state stays good follows from what the desk does.
use Rattle.std.proofs.Common.{◌≡◌, ℕ, ◌+◌, ◌*◌, ◌<◌, ◌≤◌, Bool, true, false, List, [], ◌∷◌, map, length, get_or, Some, None, Option, sym, refl, ap, ◌∙◌, subst}
use Rattle.std.proofs.lemmas.List.{length-map}
use Rattle.model.specs.Basics.{pick}
use Rattle.model.specs.Desk as desk
use Rattle.model.specs.Desk.{Desk, Event, Window, Word, after, does, window, area, kind, sender, with_window, make, close, move, raise, show, fill, put, copy, offer, point, press, key, paste, done, no}
use Rattle.model.specs.Sound.{Sound}
use Rattle.model.specs.System.{taken}
use Rattle.model.proofs.Bare.{erased}
use Rattle.model.proofs.Damage.{refused, refused-told}
use Rattle.model.proofs.Sound.{after-sound}
use Rattle.stack.specs.View.{view, slots_of}
use Rattle.stack.specs.Packed.{Packed}
use Rattle.stack.proofs.Slots.{window-at}
use Rattle.layout.specs.Sizes.{sizes_of}
use Rattle.layout.specs.State.{desk_of, Good, clip_in}
use Rattle.layout.specs.declared.sizes.Sizes.{Sizes}
use Rattle.layout.specs.declared.state.State.{State}
use Rattle.stack.specs.declared.state.Window as table
use Rattle.desktop.specs.Does.{CarriedOut, told_of, told_had, answered}
use Rattle.desktop.specs.declared.told.Told.{Told}
use Rattle.desktop.proofs.Held.{held-told}

-- a desk is sound with any pictures, if it is with some
same-but-dots : (p q : List ℕ) (o : Option table.Window) → erased (view p o) ≡ erased (view q o)
same-but-dots p q None = refl
same-but-dots p q (Some w) = refl

same-window : (s : State) (p q : List ℕ) (n : ℕ) → erased (window (desk_of s p) n) ≡ erased (window (desk_of s q) n)
same-window s p q n =
    ap erased (window-at s.stack (desk_of s p) p n refl) ∙ same-but-dots p q (get_or (slots_of s.stack) n None) ∙ sym (ap erased (window-at s.stack (desk_of s q) q n refl))

same_area : (p q : List ℕ) (os : List (Option table.Window)) → area (map (view p) os) ≡ area (map (view q) os)
unfolding area
same_area p q [] = refl
same_area p q (None ∷ os) = ap (λ k. 0 + k) (same_area p q os)
same_area p q (Some w ∷ os) = ap (λ k. w.wide * w.high + k) (same_area p q os)

pub sound-any : (z : desk.Sizes) (s : State) (p q : List ℕ) → Sound z (desk_of s p) → Sound z (desk_of s q)
sound-any z s p q h =
    record {
      len = length-map (slots_of s.stack) (view q) ∙ sym (length-map (slots_of s.stack) (view p)) ∙ h.len;
      keys_there = λ n e. sym (there n) ∙ h.keys_there n e;
      held_there = λ n e. sym (there n) ∙ h.held_there n e;
      once = λ n. h.once n ∙ ap (λ b. pick b 1 0) (there n);
      shaped = λ n t.
          let w = h.shaped n (there n ∙ t) in
          let e = same-window s p q n in
          record {
            owner = subst (λ (v : Window). v.owner < z.programs) e w.owner;
            wide_least = subst (λ (v : Window). 1 ≤ v.wide) e w.wide_least;
            wide_most = subst (λ (v : Window). v.wide ≤ z.side) e w.wide_most;
            high_least = subst (λ (v : Window). 1 ≤ v.high) e w.high_least;
            high_most = subst (λ (v : Window). v.high ≤ z.side) e w.high_most;
          };
      few = subst (λ k. k ≤ z.dots) (same_area p q (slots_of s.stack)) h.few;
    }
  where
    there : (n : ℕ) → (window (desk_of s p) n).there ≡ (window (desk_of s q) n).there
    there n = ap (λ (v : Window). v.there) (same-window s p q n)

-- all kinds of events are there
pub does-is : (z : Sizes) (d : Desk) (e : Event) → after (sizes_of z) d e ≡ does (sizes_of z) d e
unfolding after kind
does-is z d (make c x y w h) = refl
does-is z d (close c n) = refl
does-is z d (move c n x y) = refl
does-is z d (raise c n) = refl
does-is z d (show c n b) = refl
does-is z d (fill c n x y w h q) = refl
does-is z d (put c n x y l) = refl
does-is z d (copy c n x y w h a b) = refl
does-is z d (offer c l) = refl
does-is z d (point x y) = refl
does-is z d (press b) = refl
does-is z d (key k) = refl
does-is z d paste = refl

-- what the desk does is done, the windows are as many and their pictures packed: then the event is carried out
pub carried-to : (z : Sizes) (e : Event) (s s' : State) (p p' : List ℕ) (r : Option Told) → told_had (clip_in s) r ≡ true → Good (sizes_of z) s (length p) → length p' ≡ length p → s'.stack.limit ≡ s.stack.limit →
    Packed 0 (slots_of s'.stack) → desk_of s' p' ≡ (does (sizes_of z) (desk_of s p) e).0 → told_of (clip_in s) r ≡ (does (sizes_of z) (desk_of s p) e).1 →
    (taken (sizes_of z) (desk_of s p) e ≡ false → p' ≡ p) → CarriedOut (sizes_of z) e s p s' p' r
carried-to z e s s' p p' r b g l m k d t f =
    let q : desk_of s' p' ≡ (after (sizes_of z) (desk_of s p) e).0 = d ∙ ap (λ (o : Desk × List (ℕ × Word)). o.0) (sym (does-is z (desk_of s p) e)) in
    record {
      carried = record {
        desk = q;
        told = held-told s r b ∙ t ∙ ap (λ (o : Desk × List (ℕ × Word)). o.1) (sym (does-is z (desk_of s p) e));
        good = record {
          sizes = g.sizes;
          limit = m ∙ g.limit;
          packed = k;
          room = subst (λ n. z.dots ≤ n) (sym l) g.room;
          sound = λ a. sound-any (sizes_of z) s' p' a (subst (Sound (sizes_of z)) (sym q) (after-sound (sizes_of z) (desk_of s p) e (g.sound p)));
        };
        still = f;
      };
      had = b;
    }

-- with the pictures as they were
pub carried : (z : Sizes) (e : Event) (s s' : State) (p p' : List ℕ) (r : Option Told) → told_had (clip_in s) r ≡ true → Good (sizes_of z) s (length p) → p' ≡ p → s'.stack.limit ≡ s.stack.limit →
    Packed 0 (slots_of s'.stack) → desk_of s' p' ≡ (does (sizes_of z) (desk_of s p) e).0 → told_of (clip_in s) r ≡ (does (sizes_of z) (desk_of s p) e).1 → CarriedOut (sizes_of z) e s p s' p' r
carried z e s s' p p' r b g l m k d t = carried-to z e s s' p p' r b g (ap length l) m k d t (λ _. l)

-- a request that is refused leaves all as it was
pub refusal : {e : Event} {s : State} {p : List ℕ} {r : Option Told} (z : Sizes) (c : ℕ) → r ≡ answered c false → Good (sizes_of z) s (length p) → taken (sizes_of z) (desk_of s p) e ≡ false → (c, no) ∷ [] ≡ sender e →
    CarriedOut (sizes_of z) e s p s p r
refusal {e = e} {s = s} {p = p} z c q g f t =
    subst (CarriedOut (sizes_of z) e s p s p) (sym q)
    (carried z e s s p p (answered c false) refl g refl refl g.packed (sym (refused (sizes_of z) (desk_of s p) e f)) (t ∙ sym (refused-told (sizes_of z) (desk_of s p) e f)))

-- a request that is taken or not
pub picked : (z : Sizes) (e : Event) (s s' : State) (p p' : List ℕ) (c : ℕ) (b : Bool) (d : Desk) → Good (sizes_of z) s (length p) → p' ≡ p → s'.stack.limit ≡ s.stack.limit →
    Packed 0 (slots_of s'.stack) → does (sizes_of z) (desk_of s p) e ≡ pick b (d, (c, done) ∷ []) (desk_of s p, (c, no) ∷ []) → desk_of s' p' ≡ pick b d (desk_of s p) →
    CarriedOut (sizes_of z) e s p s' p' (answered c b)
picked z e s s' p p' c true d g l m k o q = carried z e s s' p p' (answered c true) refl g l m k (q ∙ ap (λ (r : Desk × List (ℕ × Word)). r.0) (sym o)) (ap (λ (r : Desk × List (ℕ × Word)). r.1) (sym o))
picked z e s s' p p' c false d g l m k o q = carried z e s s' p p' (answered c false) refl g l m k (q ∙ ap (λ (r : Desk × List (ℕ × Word)). r.0) (sym o)) (ap (λ (r : Desk × List (ℕ × Word)). r.1) (sym o))
