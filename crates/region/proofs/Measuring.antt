-- How many dots a region has: the dots of its boxes, since no two of them share one.
use Rattle.std.proofs.Common.{◌≡◌, ℕ, zero, suc, ◌+◌, ◌-◌, ◌*◌, ◌<◌, ◌≤◌, min, Bool, true, false, cond, ◌&&◌, ◌||◌, ltb, leb, List, [], ◌∷◌, ◌++◌, sym, refl, ap, ◌∙◌, subst, ap₂, mul_comm, add-mul, arith}
use Rattle.std.proofs.lemmas.Bool.{true≢false}
use Rattle.std.proofs.lemmas.Bool.Decides.{nat_tests}
use Rattle.geometry.specs.declared.Rect.{Rect}
use Rattle.geometry.specs.Boxes.{in_rect}
use Rattle.region.specs.Edges.{Between, Row}
use Rattle.region.specs.Bands.{Change, Bands, last_row}
use Rattle.region.specs.Flat.{covers, boxes, flat, Canonical}
use Rattle.region.specs.Dots.{bit, total, dots_in, area, EachProper}
use Rattle.region.specs.Laws.{tally, Measured}
use Rattle.region.proofs.Rising.{spread}
use Rattle.region.proofs.Flattening.{bands-spread}
use Rattle.region.proofs.Overlap.{apart}

-- the boxes of a region have dots, and lie on the desk
each_append : (xs ys : List Rect) → EachProper xs → EachProper ys → EachProper (xs ++ ys)
each_append [] ys h k = k
each_append (x ∷ xs) ys h k = (h.0, each_append xs ys h.1 k)

boxes-proper : (t b low : ℕ) (es : List ℕ) → Between low es 4097 → t < b → b ≤ 4096 → EachProper (boxes t b es)
boxes-proper t b low [] h l m = tt
boxes-proper t b low (x ∷ []) h l m = tt
boxes-proper t b low (x ∷ y ∷ es) h l m =
    (record { wide = h.1.0; on_right = omega (arith, spread (suc y) es 4097 h.1.1); high = l; on_below = m }, boxes-proper t b (suc y) es h.1.1 l m)

flat-proper : (t : ℕ) (row : List ℕ) (cs : List Change) → Row 4096 row → Bands (suc t) row cs 4097 → last_row row cs ≡ [] → EachProper (flat t row cs 4096)
flat-proper t row [] g h l = subst (λ (z : List ℕ). EachProper (boxes t 4096 z)) (sym l) tt
flat-proper t row (c ∷ cs) g h l =
    each_append (boxes t c.at row) (flat c.at c.row cs 4096) (boxes-proper t c.at 0 row g.0 h.0 (omega (arith, bands-spread (suc c.at) c.row cs 4097 h.3))) (flat-proper c.at c.row cs h.2 h.3 l)

pub each-proper : (rs : List Rect) → Canonical rs → EachProper rs
each-proper rs k = subst EachProper (sym k.are) (go k.bands k.good.0 k.good.1)
  where
    go : (cs : List Change) → Bands 0 [] cs 4097 → last_row [] cs ≡ [] → EachProper (flat 0 [] cs 4096)
    go [] h l = tt
    go (c ∷ cs) h l = flat-proper c.at c.row cs h.2 h.3 l

-- sums
total-same : (g h : ℕ → ℕ) (n : ℕ) → ((i : ℕ) → g i ≡ h i) → total g n ≡ total h n
unfolding total
total-same g h zero e = refl
total-same g h (suc n) e = ap₂ (λ x y. x + y) (total-same g h n e) (e n)

total-add : (g h : ℕ → ℕ) (n : ℕ) → total (λ i. g i + h i) n ≡ total g n + total h n
unfolding total
total-add g h zero = refl
total-add g h (suc n) = let e = total-add g h n in omega arith

total-none : (n : ℕ) → total (λ i. 0) n ≡ 0
unfolding total
total-none zero = refl
total-none (suc n) = let e = total-none n in omega arith

total-times : (g : ℕ → ℕ) (k n : ℕ) → total (λ i. g i * k) n ≡ total g n * k
unfolding total
total-times g k zero = let e : 0 * k ≡ 0 = omega arith in sym e
total-times g k (suc n) = let e = total-times g k n in omega (arith, add-mul (total g n) (g n) k)

span-sum : (a b n : ℕ) → total (λ i. bit (leb a i && ltb i b)) n ≡ min b n - a
unfolding total
span-sum a b zero = omega arith
span-sum a b (suc n) = let e = span-sum a b n in ap (λ z. z + bit (leb a n && ltb n b)) e ∙ step a b n
  where
    step : (a b n : ℕ) → min b n - a + bit (leb a n && ltb n b) ≡ min b (suc n) - a
    step a b n = grind (arith, nat_tests)

bit_and : (p q : Bool) → bit (p && q) ≡ bit q * bit p
bit_and true true = refl
bit_and true false = refl
bit_and false true = refl
bit_and false false = refl

box-sum : (r : Rect) (wide high : ℕ) → r.right ≤ wide → r.below ≤ high → dots_in (in_rect r) wide high ≡ (r.right - r.left) * (r.below - r.top)
box-sum r wide high h k =
    total-same _ (λ j. bit (leb r.top j && ltb j r.below) * (r.right - r.left)) high row
    ∙ (total-times (λ j. bit (leb r.top j && ltb j r.below)) (r.right - r.left) high
    ∙ (ap (λ z. z * (r.right - r.left)) (span-sum r.top r.below high ∙ omega arith) ∙ mul_comm (r.below - r.top) (r.right - r.left)))
  where
    row : (j : ℕ) → total (λ i. bit (in_rect r i j)) wide ≡ bit (leb r.top j && ltb j r.below) * (r.right - r.left)
    row j =
        total-same _ (λ i. bit (leb r.left i && ltb i r.right) * bit (leb r.top j && ltb j r.below)) wide (λ i. bit_and (leb r.left i && ltb i r.right) (leb r.top j && ltb j r.below) ∙ mul_comm (bit (leb r.top j && ltb j r.below)) (bit (leb r.left i && ltb i r.right)))
        ∙ (total-times (λ i. bit (leb r.left i && ltb i r.right)) (bit (leb r.top j && ltb j r.below)) wide
        ∙ (ap (λ z. z * bit (leb r.top j && ltb j r.below)) (span-sum r.left r.right wide ∙ omega arith) ∙ mul_comm (r.right - r.left) (bit (leb r.top j && ltb j r.below))))

-- a dot is in a region as often as in its boxes: once at most
tally-covers : (rs : List Rect) (i j : ℕ) → (covers rs i j ≡ true → 1 ≤ tally rs i j) × (covers rs i j ≡ false → tally rs i j ≡ 0)
tally-covers [] i j = ((λ e. absurd (true≢false (sym e))), (λ _. refl))
tally-covers (r ∷ rs) i j = by (in_rect r i j) (tally-covers rs i j)
  where
    by : (b : Bool) → (covers rs i j ≡ true → 1 ≤ tally rs i j) × (covers rs i j ≡ false → tally rs i j ≡ 0) →
        ((b || covers rs i j) ≡ true → 1 ≤ cond b (suc (tally rs i j)) (tally rs i j)) × ((b || covers rs i j) ≡ false → cond b (suc (tally rs i j)) (tally rs i j) ≡ 0)
    by true h = ((λ _. omega arith), (λ e. absurd (true≢false e)))
    by false h = h

bit-tally : (rs : List Rect) (i j : ℕ) → tally rs i j ≤ 1 → bit (covers rs i j) ≡ tally rs i j
bit-tally rs i j h = by (covers rs i j) refl
  where
    by : (b : Bool) → covers rs i j ≡ b → bit b ≡ tally rs i j
    by true e = omega (arith, (tally-covers rs i j).0 e)
    by false e = sym ((tally-covers rs i j).1 e)

tally-sum : (rs : List Rect) (wide high : ℕ) → wide ≡ 4096 → high ≡ 4096 → EachProper rs → total (λ j. total (λ i. tally rs i j) wide) high ≡ area rs
tally-sum [] wide high w h k = total-same _ (λ j. 0) high (λ j. total-none wide) ∙ total-none high
tally-sum (r ∷ rs) wide high w h k =
    total-same _ (λ j. total (λ i. bit (in_rect r i j)) wide + total (λ i. tally rs i j) wide) high (λ j. total-same _ (λ i. bit (in_rect r i j) + tally rs i j) wide (λ i. more (in_rect r i j) (tally rs i j)) ∙ total-add (λ i. bit (in_rect r i j)) (λ i. tally rs i j) wide)
    ∙ (total-add (λ j. total (λ i. bit (in_rect r i j)) wide) (λ j. total (λ i. tally rs i j) wide) high
    ∙ ap₂ (λ x y. x + y) (box-sum r wide high (omega (arith, k.0.on_right)) (omega (arith, k.0.on_below))) (tally-sum rs wide high w h k.1))
  where
    more : (b : Bool) (n : ℕ) → cond b (suc n) n ≡ bit b + n
    more true n = omega arith
    more false n = omega arith

measured-at : (rs : List Rect) (wide high : ℕ) → wide ≡ 4096 → high ≡ 4096 → Canonical rs → area rs ≡ dots_in (covers rs) wide high
measured-at rs wide high w h k =
    sym (total-same _ (λ j. total (λ i. tally rs i j) wide) high (λ j. total-same _ (λ i. tally rs i j) wide (λ i. bit-tally rs i j (apart rs i j k))) ∙ tally-sum rs wide high w h (each-proper rs k))

pub measured : Measured
measured rs k = measured-at rs 4096 4096 refl refl k

-- no more than the desk has
total-less : (g : ℕ → ℕ) (m n : ℕ) → ((i : ℕ) → g i ≤ m) → total g n ≤ n * m
unfolding total
total-less g m zero h = omega arith
total-less g m (suc n) h = let e = total-less g m n h in let k = h n in omega (arith, add-mul n 1 m)

dots-less : (f : ℕ → ℕ → Bool) (wide high : ℕ) → dots_in f wide high ≤ high * wide
dots-less f wide high = total-less _ wide high (λ j. let e = total-less (λ i. bit (f i j)) 1 wide (λ i. few (f i j)) in omega arith)
  where
    few : (b : Bool) → bit b ≤ 1
    few true = omega arith
    few false = omega arith

pub area-less : (rs : List Rect) → Canonical rs → area rs ≤ 16777216
area-less rs k = let e : area rs ≤ 4096 * 4096 = subst (λ (z : ℕ). z ≤ 4096 * 4096) (sym (measured rs k)) (dots-less (covers rs) 4096 4096) in e
