-- What an event damages, by its kind.
use Rattle.std.proofs.Common.{◌≡◌, ℕ, suc, ◌+◌, Bool, true, false, not, ◌&&◌, ◌||◌, eqb, leb, List, length, ℤ, pos, Some, None, Option, sym, refl, ap, ◌∙◌, subst, inl, inr, arith, eqb-true}
use Rattle.std.proofs.lemmas.Bool.Decides.{nat_tests}
use Rattle.std.proofs.lemmas.Bool.{and_parts, and_left, and_right, cases_Bool}
use Rattle.model.specs.Basics.{in_box}
use Rattle.model.specs.Desk.{Desk, Event, Word, Window, after, does, window, with_window, in_window, mine, kind, make, close, move, raise, show, fill, put, copy, offer, point, press, key, paste}
use Rattle.model.specs.Promise.{subject}
use Rattle.model.specs.System.{front_at, in_painted, same_place, taken, turned, hurt, damage}
use Rattle.model.specs.Grid.{painted_box}
use Rattle.model.proofs.Picks.{by-pick}
use Rattle.model.proofs.Windows.{window-field, mine-there}
use Rattle.model.proofs.Damage.{quiet-undamaged, same-place-is}
use Rattle.model.proofs.Fronts.{front_same, front-in}
use Rattle.model.proofs.Places.{from-left, left-of, right_of}
use Rattle.stack.proofs.Fronts.{lies}
use Rattle.protocol.specs.Meaning.{part}
use Rattle.protocol.specs.declared.types.Part.{Part}
use Rattle.protocol.proofs.Rows.{length-numbers}
use Rattle.std.specs.Option.{option_eq, option_map}
use Rattle.stack.specs.View.{numbered}
use Rattle.stack.specs.Found.{Found}
use Rattle.stack.specs.declared.state.Window as stack
use Rattle.layout.specs.State.{desk_of}
use Rattle.layout.specs.declared.state.State.{State}
use Rattle.damage.specs.Cells.{Fronting}
use Rattle.layout.specs.Sizes.{sizes_of}
use Rattle.layout.specs.declared.sizes.Sizes.{Sizes}
use Rattle.damage.specs.declared.types.Placed.{Placed}
use Rattle.damage.specs.declared.types.How.{How}
use Rattle.damage.specs.declared.types.How.TheVariants.{Turned, Moved, Painted}
use Rattle.damage.specs.declared.types.Hurt.{Hurt}
use Rattle.damage.specs.Hurts.{in_placed, Placing, hurts_by, Decided}

-- nothing, at a request that is refused and at an event about no window
or_right : (a b : Bool) → b ≡ true → (a || b) ≡ true
or_right true b e = refl
or_right false b e = e

pub none-refused : (z : Sizes) (d : Desk) (e : Event) → taken (sizes_of z) d e ≡ false → (i j : ℕ) → damage (sizes_of z) d e i j ≡ false
none-refused z d e t i j = quiet-undamaged (sizes_of z) d e i j (or_right (eqb (subject e) 0) (not (taken (sizes_of z) d e)) (rw t))

pub none-about : (z : Sizes) (d : Desk) (e : Event) → subject e ≡ 0 → (i j : ℕ) → damage (sizes_of z) d e i j ≡ false
none-about z d e t i j = quiet-undamaged (sizes_of z) d e i j (rw t)

-- nor at a move to the same place
abbrev moved_to : Window → ℕ → ℤ → ℤ → Window
moved_to w c x y = record { there = true; owner = c; shown = w.shown; x = x; y = y; wide = w.wide; high = w.high; dots = w.dots }

same-window : (w : Window) (c : ℕ) (x y a b : ℤ) → w.there ≡ true → (same_place w.x x && same_place w.y y) ≡ true → in_window (moved_to w c x y) a b ≡ in_window w a b
unfolding in_window
same-window w c x y a b t e =
    let p = and_parts (same_place w.x x) (same_place w.y y) e in
    rw (t, same-place-is w.x x p.0, same-place-is w.y y p.1)

same-front : (d : Desk) (c n : ℕ) (x y : ℤ) (i j : ℕ) → mine d c n ≡ true → (same_place (window d n).x x && same_place (window d n).y y) ≡ true →
    front_at d i j ≡ front_at (with_window d n (moved_to (window d n) c x y)) i j
unfolding with_window
same-front d c n x y i j m e =
    front_same d (with_window d n (moved_to (window d n) c x y)) d.order (pos i) (pos j)
    (λ k. sym (window-field (λ v. in_window v (pos i) (pos j)) d n k (moved_to (window d n) c x y) (same-window (window d n) c x y (pos i) (pos j) (mine-there d c n m) e)))

still-hurt : (f g k : ℕ) (b : Bool) → f ≡ g → b ≡ true → (not (eqb f g) || (eqb g (suc k) && not b)) ≡ false
still-hurt f g k b e t = rw (e, t) (grind (arith, nat_tests))

pub none-moved : (z : Sizes) (d : Desk) (c n : ℕ) (x y : ℤ) → (same_place (window d n).x x && same_place (window d n).y y) ≡ true → (i j : ℕ) → damage (sizes_of z) d (move c n x y) i j ≡ false
unfolding damage after does kind taken hurt
none-moved z d c n x y e i j =
    by-pick (mine d c n) (with_window d n (moved_to (window d n) c x y), _) (d, _)
    (λ (r : Desk × List (ℕ × Word)). (mine d c n && (turned d r.0 i j || (eqb (front_at r.0 i j) (suc n) && not (same_place (window d n).x x && same_place (window d n).y y)))) ≡ false)
    (λ m. and_right (mine d c n) _ (still-hurt (front_at d i j) _ n _ (same-front d c n x y i j m e) e)) (λ m. and_left _ _ m)

-- a request that is carried out damages what it hurts: all kinds are built
all-built : (e : Event) → leb (kind e) 12 ≡ true
unfolding kind
all-built (make c x y w h) = refl
all-built (close c n) = refl
all-built (move c n x y) = refl
all-built (raise c n) = refl
all-built (show c n b) = refl
all-built (fill c n x y w h q) = refl
all-built (put c n x y l) = refl
all-built (copy c n x y w h a b) = refl
all-built (offer c l) = refl
all-built (point x y) = refl
all-built (press b) = refl
all-built (key k) = refl
all-built paste = refl

damage-hurt : (z : Sizes) (d : Desk) (e : Event) (i j : ℕ) → taken (sizes_of z) d e ≡ true → damage (sizes_of z) d e i j ≡ hurt d (after (sizes_of z) d e).0 e i j
unfolding damage
damage-hurt z d e i j t = rw (all-built e, t)

-- what is written down of it
pub decided : (z : Sizes) (d : Desk) (e : Event) (h : Hurt) (how : How) (n : ℕ) → taken (sizes_of z) d e ≡ true → h.how ≡ how → h.window ≡ n → subject e ≡ suc n →
    Placing (window d n) (painted_box e).x (painted_box e).y (painted_box e).wide (painted_box e).high h.area →
    ((i j : ℕ) → hurt d (after (sizes_of z) d e).0 e i j ≡ hurts_by how n h.area d (after (sizes_of z) d e).0 i j) → Decided (sizes_of z) d e h
decided z d e h how n t a b s p f =
    record {
      about = s ∙ ap suc (sym b);
      area = subst (λ k. Placing (window d k) (painted_box e).x (painted_box e).y (painted_box e).wide (painted_box e).high h.area) (sym b) p;
      dots = λ i j. damage-hurt z d e i j t ∙ f i j ∙ rw (a, b);
    }

pub hurt-moved : (d d' : Desk) (c n : ℕ) (x y : ℤ) (a : Placed) → (same_place (window d n).x x && same_place (window d n).y y) ≡ false → (i j : ℕ) → hurt d d' (move c n x y) i j ≡ hurts_by Moved n a d d' i j
unfolding hurt hurts_by
hurt-moved d d' c n x y a e i j = rw e (true-right (turned d d' i j) (eqb (front_at d' i j) (suc n)))
  where
    true-right : (p q : Bool) → (p || (q && true)) ≡ (p || q)
    true-right p q = grind (arith, nat_tests)

-- where the window is in front, a box of its own dots is a box of the desk
gated : (f n : ℕ) (p q : Bool) → (f ≡ suc n → p ≡ q) → (eqb f (suc n) && p) ≡ (eqb f (suc n) && q)
gated f n p q h =
    elim (cases_Bool (eqb f (suc n))) [
      | inl t ↦ rw t (h (eqb-true f (suc n) t))
      | inr t ↦ rw t
    ]

pub hurt-painted : (d : Desk) (n x y w h : ℕ) (a : Placed) → Placing (window d n) x y w h a → (d' : Desk) (i j : ℕ) →
    (eqb (front_at d i j) (suc n) && in_painted d n x y w h i j) ≡ hurts_by Painted n a d d' i j
unfolding hurts_by in_box
hurt-painted d n x y w h a p d' i j =
    gated (front_at d i j) n _ _
    (λ e.
    let l = lies (window d n) (pos i) (pos j) (front-in d d.order (pos i) (pos j) n e) in
    let u = from-left (window d n).x i l.left in
    let v = from-left (window d n).y j l.top in
    rw (p.left, p.top, p.right, p.below, left-of (window d n).x i x _ u, right_of (window d n).x i (x + w) _ u, left-of (window d n).y j y _ v, right_of (window d n).y j (y + h) _ v))

pub placing-wide : (v : Window) (x y w w' h : ℕ) (a : Placed) → w' ≡ w → Placing v x y w h a → Placing v x y w' h a
placing-wide v x y w w' h a e p = rw e p

-- kind by kind
module _ (z : Sizes) (d : Desk) (c n : ℕ) (h : Hurt) (same : h.window ≡ n) where
  pub close-decided : taken (sizes_of z) d (close c n) ≡ true → h.how ≡ Turned → Placing (window d n) 0 0 0 0 h.area → Decided (sizes_of z) d (close c n) h
  unfolding hurt hurts_by subject painted_box
  close-decided t a p = decided z d (close c n) h Turned n t a same refl p (λ i j. refl)

  pub raise-decided : taken (sizes_of z) d (raise c n) ≡ true → h.how ≡ Turned → Placing (window d n) 0 0 0 0 h.area → Decided (sizes_of z) d (raise c n) h
  unfolding hurt hurts_by subject painted_box
  raise-decided t a p = decided z d (raise c n) h Turned n t a same refl p (λ i j. refl)

  pub show-decided : (b : Bool) → taken (sizes_of z) d (show c n b) ≡ true → h.how ≡ Turned → Placing (window d n) 0 0 0 0 h.area → Decided (sizes_of z) d (show c n b) h
  unfolding hurt hurts_by subject painted_box
  show-decided b t a p = decided z d (show c n b) h Turned n t a same refl p (λ i j. refl)

  pub move-decided : (x y : ℤ) → taken (sizes_of z) d (move c n x y) ≡ true → (same_place (window d n).x x && same_place (window d n).y y) ≡ false → h.how ≡ Moved → Placing (window d n) 0 0 0 0 h.area →
      Decided (sizes_of z) d (move c n x y) h
  unfolding subject painted_box
  move-decided x y t e a p = decided z d (move c n x y) h Moved n t a same refl p (λ i j. hurt-moved d _ c n x y h.area e i j)

  pub fill-decided : (x y u v q : ℕ) → taken (sizes_of z) d (fill c n x y u v q) ≡ true → h.how ≡ Painted → Placing (window d n) x y u v h.area → Decided (sizes_of z) d (fill c n x y u v q) h
  unfolding hurt subject painted_box
  fill-decided x y u v q t a p = decided z d (fill c n x y u v q) h Painted n t a same refl p (λ i j. hurt-painted d n x y u v h.area p _ i j)

  pub put-decided : (x y : ℕ) (bs : List ℕ) (l : Part) → taken (sizes_of z) d (put c n x y (part 4 bs l)) ≡ true → h.how ≡ Painted → Placing (window d n) x y l.count 1 h.area → Decided (sizes_of z) d (put c n x y (part 4 bs l)) h
  unfolding hurt subject painted_box
  put-decided x y bs l t a p =
      let q = placing-wide (window d n) x y l.count (length (part 4 bs l)) 1 h.area (length-numbers 4 l.count _) p in
      decided z d (put c n x y (part 4 bs l)) h Painted n t a same refl q (λ i j. hurt-painted d n x y (length (part 4 bs l)) 1 h.area q _ i j)

  pub copy-decided : (x y u v k l : ℕ) → taken (sizes_of z) d (copy c n x y u v k l) ≡ true → h.how ≡ Painted → Placing (window d n) k l u v h.area → Decided (sizes_of z) d (copy c n x y u v k l) h
  unfolding hurt subject painted_box
  copy-decided x y u v k l t a p = decided z d (copy c n x y u v k l) h Painted n t a same refl p (λ i j. hurt-painted d n k l u v h.area p _ i j)

-- an event that is about no window
pub unseen-make : (c : ℕ) (x y : ℤ) (w h : ℕ) → subject (make c x y w h) ≡ 0
unfolding subject
unseen-make c x y w h = refl

pub unseen-offer : (c : ℕ) (l : List ℕ) → subject (offer c l) ≡ 0
unfolding subject
unseen-offer c l = refl

pub unseen-point : (x y : ℤ) → subject (point x y) ≡ 0
unfolding subject
unseen-point x y = refl

pub unseen-press : (b : Bool) → subject (press b) ≡ 0
unfolding subject
unseen-press b = refl

pub unseen-key : (k : ℕ) → subject (key k) ≡ 0
unfolding subject
unseen-key k = refl

pub unseen-paste : subject paste ≡ 0
unfolding subject
unseen-paste = refl

-- a window's number is compared as an option by the code
same-number : (a b : Option ℕ) → option_eq eqb a b ≡ eqb (numbered a) (numbered b)
same-number None None = refl
same-number None (Some n) = grind (arith, nat_tests)
same-number (Some m) None = grind (arith, nat_tests)
same-number (Some m) (Some n) = grind (arith, nat_tests)

pub by-number : (a b : Option ℕ) (m n : ℕ) → numbered a ≡ m → numbered b ≡ n → option_eq eqb a b ≡ eqb m n
by-number a b m n e f = rw (← e, ← f) (same-number a b)

-- the window in front, without its number
pub fronting : (s : State) (i j : ℕ) (o : Option (ℕ × stack.Window)) → Found s.stack (pos i) (pos j) o → Fronting s i j (option_map (λ f. f.1) o)
fronting s i j None f = λ p. f (desk_of s p) p refl
fronting s i j (Some t) f = (t.0, f.slot, λ p. f.front (desk_of s p) p refl)

-- one dot
module _ (how : How) (n : ℕ) (a : Placed) (d d' : Desk) (i j : ℕ) where
  pub at-turned : (r : Bool) → how ≡ Turned → r ≡ turned d d' i j → r ≡ hurts_by how n a d d' i j
  unfolding hurts_by
  at-turned r h e = rw h e

  pub at_moved : (r : Bool) → how ≡ Moved → r ≡ true → r ≡ turned d d' i j → r ≡ hurts_by how n a d d' i j
  unfolding hurts_by
  at_moved r h t e = rw (h, ← e, t)

  pub at-moved-to : (t r : Bool) (o : Option ℕ) → how ≡ Moved → t ≡ false → t ≡ turned d d' i j → r ≡ option_eq eqb o (Some n) → numbered o ≡ front_at d' i j → r ≡ hurts_by how n a d d' i j
  unfolding hurts_by
  at-moved-to t r o h b e f g = rw (h, ← e, b) (f ∙ by-number o (Some n) _ (suc n) g refl)

  pub at-painted : (t r : Bool) (o : Option ℕ) → how ≡ Painted → t ≡ true → t ≡ in_placed a i j → r ≡ option_eq eqb o (Some n) → numbered o ≡ front_at d i j → r ≡ hurts_by how n a d d' i j
  unfolding hurts_by
  at-painted t r o h b e f g = rw (h, ← e, b) (f ∙ by-number o (Some n) _ (suc n) g refl ∙ sym (and-true _))
    where
      and-true : (q : Bool) → (q && true) ≡ q
      and-true true = refl
      and-true false = refl

  pub at-unpainted : (r : Bool) → how ≡ Painted → r ≡ false → r ≡ in_placed a i j → r ≡ hurts_by how n a d d' i j
  unfolding hurts_by
  at-unpainted r h b e = rw (h, ← e, b) (sym (and_right _ false refl))
