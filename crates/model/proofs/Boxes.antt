-- Boxes with colours, and what they do to a screen.
use Rattle.std.proofs.Common.{◌≡◌, ℕ, zero, suc, ◌+◌, ◌-◌, ◌*◌, ◌/◌, ◌%◌, ◌<◌, ◌≤◌, Bool, true, false, ◌&&◌, eqb, ltb, leb, List, [], ◌∷◌, ◌++◌, map, length, get_or, sym, refl, ap, ◌∙◌, mul-le-mul_right, mul_comm, zero-add, arith, ltb-true, leb-true}
use lib.Dec.{eqb-suc-zero}
use lib.Arith.{digits_mod, digits_div}
use Rattle.std.proofs.lemmas.Bool.Decides.{nat_tests}
use Rattle.std.proofs.lemmas.Bool.{and_parts}
use Rattle.model.specs.Basics.{pick, bit, in_box}
use Rattle.model.specs.Promise.{Box, with_box, with_boxes, in_boxes}
use Rattle.model.specs.System.{Rect, in_rect, covered, tabled, coloured, Solid, Formed}
use Rattle.model.proofs.Picks.{by-pick, pick_true, pick-false}

pub tabled-at : (n : ℕ) (f : ℕ → ℕ) (k : ℕ) → k < n → get_or (tabled n f) k 0 ≡ f k
unfolding tabled
tabled-at zero f k h = absurd (omega arith)
tabled-at (suc n) f zero h = refl
tabled-at (suc n) f (suc k) h = tabled-at n (λ a. f (suc a)) k (omega arith)

pub record Inside (x y w h i j : ℕ) : Type 0 where
  pub left : x ≤ i
  pub right : i < x + w
  pub top : y ≤ j
  pub low : j < y + h

pub inside : (x y w h i j : ℕ) → in_box x y w h i j ≡ true → Inside x y w h i j
unfolding in_box
inside x y w h i j e =
    let p = and_parts (leb x i && ltb i (x + w)) (leb y j && ltb j (y + h)) e in
    let a = and_parts _ _ p.0 in
    let b = and_parts _ _ p.1 in
    record { left = leb-true _ _ a.0; right = ltb-true _ _ a.1; top = leb-true _ _ b.0; low = ltb-true _ _ b.1 }

pub place-below : (w h a b : ℕ) → b < w → a < h → a * w + b < h * w
place-below w h a b p q = omega (arith, mul-le-mul_right w q)

-- a box has at each of its dots the colour that it was given
pub box-at : (f : ℕ → ℕ → ℕ) (r : Rect) (i j : ℕ) → in_rect r i j ≡ true → get_or (coloured f r).dots ((j - r.y) * r.wide + (i - r.x)) 0 ≡ f i j
unfolding coloured
box-at f r i j e =
    let n = inside r.x r.y r.wide r.high i j e in
    let a : i - r.x < r.wide = omega arith in
    let b : j - r.y < r.high = omega arith in
    let p : r.x + (i - r.x) ≡ i = omega arith in
    let q : r.y + (j - r.y) ≡ j = omega arith in
    tabled-at (r.high * r.wide) (λ k. f (r.x + k % r.wide) (r.y + k / r.wide)) ((j - r.y) * r.wide + (i - r.x)) (place-below r.wide r.high (j - r.y) (i - r.x) a b) ∙
    rw (digits_mod (j - r.y) a, digits_div (j - r.y) a, p, q)

pub with_box-is : (g f : ℕ → ℕ → ℕ) (r : Rect) (i j : ℕ) → with_box g (coloured f r) i j ≡ pick (in_rect r i j) (f i j) (g i j)
unfolding with_box coloured
with_box-is g f r i j =
    by-pick (in_rect r i j) (get_or (coloured f r).dots ((j - r.y) * r.wide + (i - r.x)) 0) (g i j) (λ v. v ≡ pick (in_rect r i j) (f i j) (g i j))
    (λ e. box-at f r i j e ∙ sym (pick_true (in_rect r i j) (f i j) (g i j) e)) (λ e. sym (pick-false (in_rect r i j) (f i j) (g i j) e))

-- boxes give their colours where they lie, and leave the rest
pub with_boxes-is : (f : ℕ → ℕ → ℕ) (rs : List Rect) (g : ℕ → ℕ → ℕ) (i j : ℕ) → with_boxes g (map (coloured f) rs) i j ≡ pick (eqb (covered rs i j) 0) (g i j) (f i j)
unfolding with_boxes covered
with_boxes-is f [] g i j = refl
with_boxes-is f (r ∷ rs) g i j = with_boxes-is f rs (with_box g (coloured f r)) i j ∙ ap (λ v. pick (eqb (covered rs i j) 0) v (f i j)) (with_box-is g f r i j) ∙ joined (in_rect r i j) (covered rs i j) (f i j) (g i j)
  where
    joined : (b : Bool) (k u v : ℕ) → pick (eqb k 0) (pick b u v) u ≡ pick (eqb (pick b (suc k) k) 0) v u
    joined true zero u v = refl
    joined true (suc k) u v = rw (eqb-suc-zero k, eqb-suc-zero (suc k))
    joined false k u v = refl

-- counting dots in boxes
pub covered-append : (rs ss : List Rect) (i j : ℕ) → covered (rs ++ ss) i j ≡ covered rs i j + covered ss i j
unfolding covered
covered-append [] ss i j = sym (zero-add _)
covered-append (r ∷ rs) ss i j =
    let h = covered-append rs ss i j in
    by-pick (in_box r.x r.y r.wide r.high i j) (suc (covered rs i j)) (covered rs i j)
    (λ k. pick (in_box r.x r.y r.wide r.high i j) (suc (covered (rs ++ ss) i j)) (covered (rs ++ ss) i j) ≡ k + covered ss i j)
    (λ e. rw e (omega arith)) (λ e. rw e h)

pub covered-cons : (r : Rect) (rs : List Rect) (i j : ℕ) → covered (r ∷ rs) i j ≡ bit (in_rect r i j) + covered rs i j
unfolding covered
covered-cons r rs i j =
    by-pick (in_rect r i j) (suc (covered rs i j)) (covered rs i j) (λ k. k ≡ bit (in_rect r i j) + covered rs i j) (λ e. rw e (omega arith)) (λ e. rw e (omega arith))

pub coloured-count : (f : ℕ → ℕ → ℕ) (rs : List Rect) (i j : ℕ) → in_boxes (map (coloured f) rs) i j ≡ covered rs i j
unfolding in_boxes covered coloured
coloured-count f [] i j = refl
coloured-count f (r ∷ rs) i j = ap (λ k. pick (in_rect r i j) (suc k) k) (coloured-count f rs i j)

-- outside of all boxes nothing is written
pub unwritten : (bs : List Box) (f : ℕ → ℕ → ℕ) (i j : ℕ) → in_boxes bs i j ≡ 0 → with_boxes f bs i j ≡ f i j
unfolding in_boxes with_boxes with_box
unwritten [] f i j = λ _. refl
unwritten (b ∷ bs) f i j =
    by-pick (in_box b.x b.y b.wide b.high i j) (suc (in_boxes bs i j)) (in_boxes bs i j) (λ k. k ≡ 0 → with_boxes (with_box f b) bs i j ≡ f i j) (λ _ e. absurd (omega arith))
    (λ t e. unwritten bs (with_box f b) i j e ∙ rw t)

-- a box of the list counts at its dots
pub counts : (bs : List Box) (k : ℕ) (b c : Box) (i j : ℕ) → k < length bs → get_or bs k c ≡ b → in_box b.x b.y b.wide b.high i j ≡ true → 0 < in_boxes bs i j
unfolding in_boxes
counts [] k b c i j h e t = absurd (omega arith)
counts (a ∷ bs) zero b c i j h e t =
    let u : in_box a.x a.y a.wide a.high i j ≡ true = ap (λ (v : Box). in_box v.x v.y v.wide v.high i j) e ∙ t in
    rw u (omega arith)
counts (a ∷ bs) (suc k) b c i j h e t =
    let r = counts bs k b c i j (omega arith) e t in
    by-pick (in_box a.x a.y a.wide a.high i j) (suc (in_boxes bs i j)) (in_boxes bs i j) (λ n. 0 < n) (λ _. omega arith) (λ _. r)

corner-in : (x y w h : ℕ) → 1 ≤ w → 1 ≤ h → in_box x y w h x y ≡ true
unfolding in_box
corner-in x y w h p q = grind (arith, nat_tests)

-- formed boxes that count nowhere are none
pub none-formed : (bs : List Box) → Formed bs → ((i j : ℕ) → in_boxes bs i j ≡ 0) → bs ≡ []
none-formed [] f h = refl
none-formed (b ∷ bs) f h =
    let c = counts (b ∷ bs) 0 b b b.x b.y (omega arith) refl (corner-in b.x b.y b.wide b.high f.0 f.1) in
    let z = h b.x b.y in
    absurd (omega arith)

-- a coloured box has as many colours as dots
pub tabled-length : (n : ℕ) (f : ℕ → ℕ) → length (tabled n f) ≡ n
unfolding tabled
tabled-length zero f = refl
tabled-length (suc n) f = ap suc (tabled-length n (λ k. f (suc k)))

pub coloured-length : (f : ℕ → ℕ → ℕ) (r : Rect) → length (coloured f r).dots ≡ r.high * r.wide
unfolding coloured
coloured-length f r = tabled-length (r.high * r.wide) _

pub coloured-formed : (f : ℕ → ℕ → ℕ) (rs : List Rect) → Solid rs → Formed (map (coloured f) rs)
unfolding coloured
coloured-formed f [] s = tt
coloured-formed f (r ∷ rs) s = (s.0, s.1, coloured-length f r ∙ mul_comm r.high r.wide, coloured-formed f rs s.2)
