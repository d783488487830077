-- What others paint, and the keys that are typed for others, tell a program nothing.
use Rattle.std.proofs.Common.{◌≡◌, ℕ, suc, Bool, true, false, List, [], ◌∷◌, ◌++◌, sym, refl, ap, ◌∙◌, ne_eqb}
use lib.Seq.{map-set_same}
use Rattle.std.proofs.lemmas.Bool.{both_ways}
use Rattle.model.specs.Basics.{pick}
use Rattle.model.specs.Desk.{Desk, Sizes, Event, Window, Word, nothing, after, does, told, told_key, words_to, empty, window, with_window, painted, kind, sender, make, close, move, raise, show, fill, put, copy, offer, point, press, key, paste, typed, done, no}
use Rattle.model.specs.Promise.{Alike, over, same, painted_here, painted_there, key_here, key_there, typed_in, Unseen, SameTold, is_paint, painter}
use Rattle.model.specs.Kept.{UnseenBy, UnseenOf}
use Rattle.model.proofs.Picks.{by-pick}
use Rattle.model.proofs.Bare.{erased, bare, with-list, bare-window, alike-after}

-- all that goes to one program
abbrev Only : ℕ → List (ℕ × Word) → Type 0
Only p ms = (c : ℕ) → (p ≡ c → ⊥) → words_to c ms ≡ []

only_one : (p : ℕ) (w : Word) → Only p ((p, w) ∷ [])
unfolding words_to
only_one p w c h = rw (ne_eqb p c h)

-- a picture changed, and one word to the painter
abbrev Quiet : Desk → ℕ → Desk × List (ℕ × Word) → Type 0
Quiet d p r = (bare r.0 ≡ bare d) × Only p r.1

paint-bare : (d : Desk) (n : ℕ) (f : ℕ → ℕ → ℕ) → bare (with_window d n (painted (window d n) f)) ≡ bare d
unfolding with_window painted window
paint-bare d n f = ap (with-list d) (map-set_same erased d.windows n (painted (window d n) f) nothing refl)

paint-quiet : (d : Desk) (b : Bool) (c n : ℕ) (f : ℕ → ℕ → ℕ) → Quiet d c (pick b (with_window d n (painted (window d n) f), (c, done) ∷ []) (d, (c, no) ∷ []))
paint-quiet d true c n f = (paint-bare d n f, only_one c done)
paint-quiet d false c n f = (refl, only_one c no)

does-quiet : (z : Sizes) (d : Desk) (e : Event) → is_paint e ≡ true → Quiet d (painter e) (does z d e)
unfolding does is_paint painter
does-quiet z d (make c x y w h) t = absurd (both_ways false refl t)
does-quiet z d (close c n) t = absurd (both_ways false refl t)
does-quiet z d (move c n x y) t = absurd (both_ways false refl t)
does-quiet z d (raise c n) t = absurd (both_ways false refl t)
does-quiet z d (show c n b) t = absurd (both_ways false refl t)
does-quiet z d (fill c n x y w h q) t = paint-quiet d _ c n _
does-quiet z d (put c n x y l) t = paint-quiet d _ c n _
does-quiet z d (copy c n x y w h a b) t = paint-quiet d _ c n _
does-quiet z d (offer c l) t = absurd (both_ways false refl t)
does-quiet z d (point x y) t = absurd (both_ways false refl t)
does-quiet z d (press b) t = absurd (both_ways false refl t)
does-quiet z d (key k) t = absurd (both_ways false refl t)
does-quiet z d paste t = absurd (both_ways false refl t)

-- one that isn't built is answered no
only_none : (p : ℕ) → Only p []
unfolding words_to
only_none p c h = refl

sender-only : (e : Event) → Only (painter e) (sender e)
unfolding sender painter
sender-only (make c x y w h) = only_one c no
sender-only (close c n) = only_one c no
sender-only (move c n x y) = only_one c no
sender-only (raise c n) = only_one c no
sender-only (show c n b) = only_one c no
sender-only (fill c n x y w h q) = only_one c no
sender-only (put c n x y l) = only_one c no
sender-only (copy c n x y w h a b) = only_one c no
sender-only (offer c l) = only_one c no
sender-only (point x y) = only_none 0
sender-only (press b) = only_none 0
sender-only (key k) = only_none 0
sender-only paste = only_none 0

after-quiet : (z : Sizes) (d : Desk) (e : Event) → is_paint e ≡ true → Quiet d (painter e) (after z d e)
unfolding after
after-quiet z d e t = by-pick (z.built (kind e)) (does z d e) (d, sender e) (Quiet d (painter e)) (λ _. does-quiet z d e t) (λ _. (refl, sender-only e))

-- a key goes to one program
key-only : (d : Desk) (k n m : ℕ) → m ≡ suc n → Only (window d n).owner (told_key d k m)
unfolding told_key
key-only d k n m e = rw e (only_one (window d n).owner (typed n k))

key-quiet : (z : Sizes) (d : Desk) (k n : ℕ) → d.keys ≡ suc n → ((after z d (key k)).0 ≡ d) × Only (window d n).owner (after z d (key k)).1
unfolding after does kind sender
key-quiet z d k n e =
    by-pick (z.built 11) (does z d (key k)) (d, []) (λ r. (r.0 ≡ d) × Only (window d n).owner r.1) (λ _. (refl, key-only d k n d.keys e)) (λ _. (refl, only_none _))

apart : (A : ℕ → Bool) (c p : ℕ) → A c ≡ true → A p ≡ false → p ≡ c → ⊥
apart A c p t f e = both_ways (A p) f (ap A e ∙ t)

module _ (z : Sizes) (A : ℕ → Bool) (c : ℕ) (t : A c ≡ true) where
  told_more : (d : Desk) (e : Event) (es : List Event) → words_to c (after z d e).1 ≡ [] → told z d c (e ∷ es) ≡ told z (after z d e).0 c es
  unfolding told
  told_more d e es h = ap (λ ws. ws ++ told z (after z d e).0 c es) h

  bare-owner : (d d' : Desk) (n : ℕ) → bare d ≡ bare d' → (window d n).owner ≡ (window d' n).owner
  bare-owner d d' n p =
      ap (λ (w : Window). w.owner) (sym (bare-window d n)) ∙ ap (λ b. (window b n).owner) p ∙ ap (λ (w : Window). w.owner) (bare-window d' n)

  unseen_from : (d' : Desk) {d : Desk} {es fs : List Event} → Alike z A d es fs → bare d ≡ bare d' → told z d c es ≡ told z d' c fs
  unfolding told
  unseen_from d' over p = refl
  unseen_from d' (same {d} {es} {fs} e a) p =
      let q = alike-after z d d' e p in
      ap (λ (r : Desk × List (ℕ × Word)). words_to c r.1 ++ told z (after z d e).0 c es) q ∙
      ap (λ ws. words_to c (after z d' e).1 ++ ws) (unseen_from (after z d' e).0 a (ap (λ (r : Desk × List (ℕ × Word)). r.0) q))
  unseen_from d' (painted_here {d} {es} {fs} e f q a) p =
      let u = after-quiet z d e q in
      told_more d e es (u.1 c (apart A c (painter e) t f)) ∙ unseen_from d' a (u.0 ∙ p)
  unseen_from d' (painted_there {d} {es} {fs} e f q a) p =
      let u = after-quiet z d' e q in
      unseen_from (after z d' e).0 a (p ∙ sym u.0) ∙ sym (told_more d' e fs (u.1 c (apart A c (painter e) t f)))
  unseen_from d' (key_here {d} {es} {fs} k n e f a) p =
      let u = key-quiet z d k n e in
      told_more d (key k) es (u.1 c (apart A c (window d n).owner t f)) ∙ ap (λ b. told z b c es) u.0 ∙ unseen_from d' a p
  unseen_from d' (key_there {d} {es} {fs} k n e f a) p =
      let u = key-quiet z d' k n (ap (λ (b : Desk). b.keys) (sym p) ∙ e) in
      unseen_from d' a p ∙ sym (told_more d' (key k) fs (u.1 c (apart A c (window d' n).owner t (ap A (sym (bare-owner d d' n p)) ∙ f))) ∙ ap (λ b. told z b c fs) u.0)
  unseen_from d' (typed_in {d} {es} {fs} k l n e f a) p =
      let u = key-quiet z d k n e in
      let v = key-quiet z d' l n (ap (λ (b : Desk). b.keys) (sym p) ∙ e) in
      told_more d (key k) es (u.1 c (apart A c (window d n).owner t f)) ∙ ap (λ b. told z b c es) u.0 ∙ unseen_from d' a p ∙
      sym (told_more d' (key l) fs (v.1 c (apart A c (window d' n).owner t (ap A (sym (bare-owner d d' n p)) ∙ f))) ∙ ap (λ b. told z b c fs) v.0)

pub unseen : Unseen
unfolding Unseen
unseen z A c es fs t a = unseen_from z A c t (empty z) a refl

-- and so of any system that tells what the desk tells
pub unseen_of : (S : Type 0) → UnseenOf S
unfolding UnseenOf UnseenBy SameTold Unseen
unseen_of S start happens sends tells h z A c es fs fz fe ff t a = h z es c fz fe ∙ unseen z A c es fs t a ∙ sym (h z fs c fz ff)
