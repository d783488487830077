-- A region that is moved, and clipped to a screen.
use Rattle.std.proofs.Common.{◌≡◌, ℕ, zero, suc, ◌+◌, ◌-◌, ◌*◌, ◌<◌, ◌≤◌, min, Bool, true, false, cond, ◌&&◌, ◌||◌, ltb, leb, ◌⊎◌, List, [], ◌∷◌, ◌++◌, length, take, ℤ, pos, negsuc, ◌-ℤ◌, sym, refl, ap, ◌∙◌, subst, ap₂, inl, inr, arith}
use lib.Signed.{le_z, mag}
use Rattle.std.proofs.lemmas.Bool.{true≢false, cases_lt, le-leb, lt-ltb, le-ltb, or_right}
use Rattle.std.proofs.lemmas.Int.{ints}
use Rattle.std.proofs.lemmas.List.{take_at, length-append, length-take-le}
use Rattle.std.proofs.lemmas.Bool.Decides.{nat_tests}
use Rattle.geometry.specs.declared.Rect.{Rect}
use Rattle.geometry.specs.Boxes.{in_rect, on_screen}
use Rattle.region.specs.declared.Op.TheVariants.{Meet}
use Rattle.region.specs.Flat.{covers, Canonical}
use Rattle.region.specs.Lines.{Lines, Roomy}
use Rattle.region.specs.Dots.{EachProper}
use Rattle.region.specs.Shift.{shifted, Stays, steps_forth, steps_back, coming, Moved}
use Rattle.region.specs.Words.{rects, one, Makes}
use Rattle.region.proofs.Wording.{covers_one}
use Rattle.region.proofs.Theorems.{box-is}
use Rattle.region.proofs.Measuring.{each-proper}
use Rattle.region.proofs.Shifting.{canonical-of, shifts_of}
use Rattle.region.proofs.Sides.{lines-list, lines_more, AllOn, on-first}

-- what the boxes of one box cover
pub one_covers : (r : Rect) (i j : ℕ) → covers (one r) i j ≡ in_rect r i j
one_covers r i j = by (ltb r.left r.right && ltb r.top r.below) refl
  where
    off : (a b c d i j : ℕ) → (ltb a b && ltb c d) ≡ false → false ≡ ((leb a i && ltb i b) && (leb c j && ltb j d))
    off a b c d i j h = grind (arith, nat_tests)

    by : (z : Bool) → (ltb r.left r.right && ltb r.top r.below) ≡ z → covers (cond z (r ∷ []) []) i j ≡ in_rect r i j
    by true e = covers_one r i j
    by false e = off r.left r.right r.top r.below i j e

-- and that they are a region
one-region : (r : Rect) → r.right ≤ 4096 → r.below ≤ 4096 → Canonical (one r)
one-region r h k = by (ltb r.left r.right) (ltb r.top r.below) refl refl
  where
    lt_of : (a b : ℕ) → ltb a b ≡ true → a < b
    lt_of a b e = grind (arith, nat_tests)

    nothing : Canonical []
    nothing = record { bands = []; good = (omega arith, refl); are = refl }

    by : (p q : Bool) → ltb r.left r.right ≡ p → ltb r.top r.below ≡ q → Canonical (cond (p && q) (r ∷ []) [])
    by true true e f = box-is r (record { wide = lt_of r.left r.right e; on_right = h; high = lt_of r.top r.below f; on_below = k })
    by true false e f = nothing
    by false q e f = nothing

-- the boxes of a set that lies in a box lie in it
abbrev EachIn : Rect → List Rect → Type 0
EachIn P [] = Unit {0}
EachIn P (b ∷ bs) = ((P.left ≤ b.left) × (b.right ≤ P.right) × (P.top ≤ b.top) × (b.below ≤ P.below)) × EachIn P bs

in_parts : (P : Rect) (i j : ℕ) → in_rect P i j ≡ true → (P.left ≤ i) × (i < P.right) × (P.top ≤ j) × (j < P.below)
in_parts P i j h = (grind (arith, nat_tests), grind (arith, nat_tests), grind (arith, nat_tests), grind (arith, nat_tests))

is-in : (a b c d i j : ℕ) → a ≤ i → i < b → c ≤ j → j < d → ((leb a i && ltb i b) && (leb c j && ltb j d)) ≡ true
is-in a b c d i j h k l m = grind (arith, nat_tests)

each_in : (P : Rect) (bs : List Rect) → EachProper bs → ((i j : ℕ) → covers bs i j ≡ true → in_rect P i j ≡ true) → EachIn P bs
each_in P [] h k = tt
each_in P (b ∷ bs) h k =
    let w = h.0.wide in
    let v = h.0.high in
    let p = in_parts P b.left b.top (k b.left b.top (head b.left b.top (is-in b.left b.right b.top b.below b.left b.top (omega arith) w (omega arith) v))) in
    let q = in_parts P (b.right - 1) (b.below - 1) (k (b.right - 1) (b.below - 1) (head (b.right - 1) (b.below - 1) (is-in b.left b.right b.top b.below (b.right - 1) (b.below - 1) (omega arith) (omega arith) (omega arith) (omega arith)))) in
    ((p.0, omega (arith, q.1), p.2, omega (arith, q.3)), each_in P bs h.1 (λ i j e. k i j (or_right (in_rect b i j) (covers bs i j) e)))
  where
    head : (i j : ℕ) → in_rect b i j ≡ true → covers (b ∷ bs) i j ≡ true
    head i j e = ap (λ z. z || covers bs i j) e

-- a region lies on the desk
covers_low : (rs : List Rect) (i j : ℕ) → EachProper rs → covers rs i j ≡ true → (i < 4096) × (j < 4096)
covers_low [] i j h e = absurd (true≢false (sym e))
covers_low (r ∷ rs) i j h e = by (in_rect r i j) refl e (λ f. covers_low rs i j h.1 f)
  where
    by : (b : Bool) → in_rect r i j ≡ b → (b || covers rs i j) ≡ true → (covers rs i j ≡ true → (i < 4096) × (j < 4096)) → (i < 4096) × (j < 4096)
    by true q f g = let p = in_parts r i j q in (omega (arith, p.1, h.0.on_right), omega (arith, p.3, h.0.on_below))
    by false q f g = g f

-- a distance by its two numbers
on-side : (d : ℤ) (i : ℕ) → le_z d (pos i) ≡ leb (steps_forth d) (i + steps_back d)
on-side (pos n) i = grind (arith, nat_tests)
on-side (negsuc n) i = grind (arith, nat_tests)

at_side : (d : ℤ) (i : ℕ) → leb (steps_forth d) (i + steps_back d) ≡ true → mag (pos i -ℤ d) ≡ i + steps_back d - steps_forth d
at_side (pos zero) i h = omega arith
at_side (pos (suc n)) i h = go i (suc n) (grind (arith, nat_tests))
  where
    go : (i n : ℕ) → n ≤ i → mag (pos i -ℤ pos n) ≡ i + 0 - n
    go i n l = grind (arith, ints)
at_side (negsuc n) i h = omega arith

one_way : (d : ℤ) → (steps_forth d ≡ 0) ⊎ (steps_back d ≡ 0)
one_way (pos n) = inr refl
one_way (negsuc n) = inl refl

-- along one side: what comes to lie below the limit
coming-side : (r l lim i : ℕ) → (r ≡ 0) ⊎ (l ≡ 0) → lim ≤ 4096 → r ≤ i + l → i + l - r < 4096 → (leb (min l 4096) (i + l - r) && ltb (i + l - r) (min (lim + l - r) 4096)) ≡ ltb i lim
coming-side r l lim i w h k m = by (cases_lt i lim)
  where
    low : leb (min l 4096) (i + l - r) ≡ true
    low = le-leb (min l 4096) (i + l - r) (go w)
      where
        go : (r ≡ 0) ⊎ (l ≡ 0) → min l 4096 ≤ i + l - r
        go (inl e) = omega arith
        go (inr e) = omega arith

    by : (i < lim) ⊎ (lim ≤ i) → (leb (min l 4096) (i + l - r) && ltb (i + l - r) (min (lim + l - r) 4096)) ≡ ltb i lim
    by (inl p) = ap₂ (λ x y. x && y) low (lt-ltb (i + l - r) (min (lim + l - r) 4096) (omega arith)) ∙ sym (lt-ltb i lim p)
    by (inr p) = ap₂ (λ x y. x && y) low (le-ltb (i + l - r) (min (lim + l - r) 4096) (omega arith)) ∙ sym (le-ltb i lim p)

and-true : (t : Bool) → t ≡ (t && true)
and-true true = refl
and-true false = refl

and-false : (t : Bool) → false ≡ (t && false)
and-false true = refl
and-false false = refl

assemble : (p q a s t pz qz az : Bool) → pz ≡ p → qz ≡ q → (p ≡ true → q ≡ true → az ≡ a) → (p ≡ true → q ≡ true → a ≡ true → s ≡ t) → ((p && q) && (a && s)) ≡ (t && ((pz && qz) && az))
assemble true true true s t pz qz az e f g h = h refl refl refl ∙ (and-true t ∙ ap (λ z. t && z) (sym (ap₂ (λ u v. (u && v) && az) e f ∙ g refl refl)))
assemble true true false s t pz qz az e f g h = and-false t ∙ ap (λ z. t && z) (sym (ap₂ (λ u v. (u && v) && az) e f ∙ g refl refl))
assemble true false a s t pz qz az e f g h = and-false t ∙ ap (λ z. t && z) (sym (ap₂ (λ u v. (u && v) && az) e f))
assemble false q a s t pz qz az e f g h = and-false t ∙ ap (λ z. t && z) (sym (ap₂ (λ u v. (u && v) && az) e f))

-- what was clipped stays on the desk
pub stays-made : (r l d u across down : ℕ) (A : List Rect) (out : List ℕ) (n : ℕ) → Makes Meet A (one (coming r l d u across down)) out n → Stays r l d u (rects (take (2 * n) out))
stays-made r l d u across down A out n m = go (rects (take (2 * n) out)) (each-proper (rects (take (2 * n) out)) m.canonical) (each_in P (rects (take (2 * n) out)) (each-proper (rects (take (2 * n) out)) m.canonical) lies)
  where
    P : Rect
    P = coming r l d u across down

    right_of : (x y : Bool) → (x && y) ≡ true → y ≡ true
    right_of true y e = e
    right_of false y e = absurd (true≢false (sym e))

    lies : (i j : ℕ) → covers (rects (take (2 * n) out)) i j ≡ true → in_rect P i j ≡ true
    lies i j e = sym (one_covers P i j) ∙ right_of (covers A i j) (covers (one P) i j) (sym (m.dots i j) ∙ e)

    go : (bs : List Rect) → EachProper bs → EachIn P bs → Stays r l d u bs
    go [] h k = tt
    go (b ∷ bs) h k =
        let w = h.0.wide in
        let x = h.0.on_right in
        let v = h.0.high in
        let y = h.0.on_below in
        let a₁ = k.0.0 in
        let a₂ = k.0.1 in
        let a₃ = k.0.2 in
        let a₄ = k.0.3 in
        ((omega arith, omega arith, omega arith, omega arith, omega arith, omega arith), go bs h.1 k.1)

-- and is then moved
pub moved_made : (dx dy : ℤ) (across down : ℕ) (A : List Rect) (out after : List ℕ) (n : ℕ) → Canonical A →
    Makes Meet A (one (coming (steps_forth dx) (steps_back dx) (steps_forth dy) (steps_back dy) across down)) out n → 2 * n ≤ length after →
    rects (take (2 * n) after) ≡ shifted (steps_forth dx) (steps_back dx) (steps_forth dy) (steps_back dy) (rects (take (2 * n) out)) → Moved A dx dy across down after n
moved_made dx dy across down A out after n k m h e =
    record {
      within = h;
      canonical = subst Canonical (sym e) (canonical-of r l d u C m.canonical stays);
      dots = λ i j.
          ap (λ (z : List Rect). covers z i j) e
          ∙ (shifts_of r l d u C stays i j
          ∙ (ap (λ z. (leb r (i + l) && leb d (j + u)) && z) (m.dots (i + l - r) (j + u - d) ∙ ap (λ z. covers A (i + l - r) (j + u - d) && z) (one_covers P (i + l - r) (j + u - d)))
          ∙ assemble (leb r (i + l)) (leb d (j + u)) (covers A (i + l - r) (j + u - d)) (in_rect P (i + l - r) (j + u - d)) (on_screen (min across 4096) (min down 4096) i j) (le_z dx (pos i)) (le_z dy (pos j)) (covers A (mag (pos i -ℤ dx)) (mag (pos j -ℤ dy)))
          (on-side dx i) (on-side dy j) (λ p q. ap₂ (covers A) (at_side dx i p) (at_side dy j q)) (λ p q a. shown i j p q (covers_low A (i + l - r) (j + u - d) (each-proper A k) a))));
    }
  where
    r : ℕ
    r = steps_forth dx

    l : ℕ
    l = steps_back dx

    d : ℕ
    d = steps_forth dy

    u : ℕ
    u = steps_back dy

    P : Rect
    P = coming (steps_forth dx) (steps_back dx) (steps_forth dy) (steps_back dy) across down

    C : List Rect
    C = rects (take (2 * n) out)

    stays : Stays r l d u C
    stays = stays-made r l d u across down A out n m

    le_of : (a b : ℕ) → leb a b ≡ true → a ≤ b
    le_of a b q = grind (arith, nat_tests)

    shown : (i j : ℕ) → leb r (i + l) ≡ true → leb d (j + u) ≡ true → (i + l - r < 4096) × (j + u - d < 4096) → in_rect P (i + l - r) (j + u - d) ≡ on_screen (min across 4096) (min down 4096) i j
    shown i j p q low =
        ap₂ (λ x y. x && y) (coming-side r l (min across 4096) i (one_way dx) (omega arith) (le_of r (i + l) p) low.0) (coming-side d u (min down 4096) j (one_way dy) (omega arith) (le_of d (j + u) q) low.1)

-- the same, with the box that the code has found
module _ (dx dy : ℤ) (across down : ℕ) (A : List Rect) (out : List ℕ) (n : ℕ) (P : Rect) (is : P ≡ coming (steps_forth dx) (steps_back dx) (steps_forth dy) (steps_back dy) across down)
    (k : Canonical A) (m : Makes Meet A (one P) out n) where
  made : Makes Meet A (one (coming (steps_forth dx) (steps_back dx) (steps_forth dy) (steps_back dy) across down)) out n
  made = subst (λ (z : Rect). Makes Meet A (one z) out n) is m

  pub shift-stays : Stays (steps_forth dx) (steps_back dx) (steps_forth dy) (steps_back dy) (rects (take (2 * n) out))
  shift-stays = stays-made _ _ _ _ across down A out n made

  pub shift_made : (ys post : List ℕ) → length ys ≡ length (take (2 * n) out) → rects ys ≡ shifted (steps_forth dx) (steps_back dx) (steps_forth dy) (steps_back dy) (rects (take (2 * n) out)) → Moved A dx dy across down (ys ++ post) n
  shift_made ys post e q = moved_made dx dy across down A out (ys ++ post) n k made (omega (arith, size, length-append ys post)) (ap rects (take_at ys post (2 * n) size) ∙ q)
    where
      size : length ys ≡ 2 * n
      size = e ∙ length-take-le (2 * n) out m.within

-- the room that it wants
pub coming-region : (r l d u across down : ℕ) (P : Rect) → P ≡ coming r l d u across down → Canonical (one P)
coming-region r l d u across down P e = subst (λ (z : Rect). Canonical (one z)) (sym e) (one-region (coming r l d u across down) (omega arith) (omega arith))

pub moved-room : (P : Rect) (A : List Rect) (room : ℕ) (X Y : List ℕ) → Lines X Y A → (length X + 2) * (length Y + 4) ≤ 2 * room → Roomy A (one P) room
moved-room P A room X Y l h =
    record {
      X = P.left ∷ P.right ∷ X;
      Y = P.top ∷ P.below ∷ Y;
      on_a = lines_more P.left P.right P.top P.below X Y A l;
      on_b = lines-list (P.left ∷ P.right ∷ X) (P.top ∷ P.below ∷ Y) (one P) (on (ltb P.left P.right && ltb P.top P.below));
      enough =
          let e : length (P.left ∷ P.right ∷ X) ≡ length X + 2 = omega arith in
          let f : length (P.top ∷ P.below ∷ Y) + 2 ≡ length Y + 4 = omega arith in
          subst (λ (z : ℕ). z ≤ 2 * room) (sym (ap₂ (λ (u v : ℕ). u * v) e f)) h;
    }
  where
    on : (z : Bool) → AllOn (P.left ∷ P.right ∷ X) (P.top ∷ P.below ∷ Y) (cond z (P ∷ []) [])
    on true = (on-first P X Y, tt)
    on false = tt
