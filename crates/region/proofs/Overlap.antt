-- The boxes of a region do not overlap: no dot is in two of them.
use Rattle.std.proofs.Common.{◌≡◌, ℕ, suc, ◌+◌, ◌<◌, ◌≤◌, Bool, true, false, cond, ◌&&◌, ltb, leb, ◌⊎◌, List, [], ◌∷◌, ◌++◌, sym, refl, ap, ◌∙◌, subst, ap₂, inl, inr, arith}
use Rattle.std.proofs.lemmas.Bool.{cases_lt, lt-leb, le-ltb}
use Rattle.geometry.specs.declared.Rect.{Rect}
use Rattle.geometry.specs.Boxes.{in_rect}
use Rattle.region.specs.Edges.{Between, Row}
use Rattle.region.specs.Bands.{Change, Bands}
use Rattle.region.specs.Flat.{boxes, flat, Canonical}
use Rattle.region.specs.Laws.{tally}

none : (b : Bool) → (b && false) ≡ false
none true = refl
none false = refl

tally-append : (xs ys : List Rect) (i j : ℕ) → tally (xs ++ ys) i j ≡ tally xs i j + tally ys i j
tally-append [] ys i j = omega arith
tally-append (x ∷ xs) ys i j = go (in_rect x i j) (tally-append xs ys i j)
  where
    go : (b : Bool) → tally (xs ++ ys) i j ≡ tally xs i j + tally ys i j → cond b (suc (tally (xs ++ ys) i j)) (tally (xs ++ ys) i j) ≡ cond b (suc (tally xs i j)) (tally xs i j) + tally ys i j
    go true e = omega arith
    go false e = e

-- off the band's rows
tally-off : (t b : ℕ) (es : List ℕ) (i j : ℕ) → (leb t j && ltb j b) ≡ false → tally (boxes t b es) i j ≡ 0
tally-off t b [] i j h = refl
tally-off t b (l ∷ []) i j h = refl
tally-off t b (l ∷ r ∷ es) i j h =
    ap (λ z. cond z (suc (tally (boxes t b es) i j)) (tally (boxes t b es) i j)) (ap (λ z. (leb l i && ltb i r) && z) h ∙ none (leb l i && ltb i r)) ∙ tally-off t b es i j h

-- to the left of the row
tally-left : (t b low : ℕ) (es : List ℕ) (high i j : ℕ) → Between low es high → i < low → tally (boxes t b es) i j ≡ 0
tally-left t b low [] high i j h k = refl
tally-left t b low (l ∷ []) high i j h k = refl
tally-left t b low (l ∷ r ∷ es) high i j h k =
    ap (λ z. cond ((z && ltb i r) && (leb t j && ltb j b)) (suc (tally (boxes t b es) i j)) (tally (boxes t b es) i j)) (lt-leb l i (omega arith)) ∙ tally-left t b (suc r) es high i j h.1.1 (omega arith)

tally-row : (t b low : ℕ) (es : List ℕ) (high i j : ℕ) → Between low es high → tally (boxes t b es) i j ≤ 1
tally-row t b low [] high i j h = omega arith
tally-row t b low (l ∷ []) high i j h = omega arith
tally-row t b low (l ∷ r ∷ es) high i j h = go (tally-row t b (suc r) es high i j h.1.1) (cases_lt i r)
  where
    go : tally (boxes t b es) i j ≤ 1 → (i < r) ⊎ (r ≤ i) → tally (boxes t b (l ∷ r ∷ es)) i j ≤ 1
    go m (inl k) = by (in_rect (record { left = l; top = t; right = r; below = b }) i j) (tally-left t b (suc r) es high i j h.1.1 (omega arith))
      where
        by : (z : Bool) → tally (boxes t b es) i j ≡ 0 → cond z (suc (tally (boxes t b es) i j)) (tally (boxes t b es) i j) ≤ 1
        by true e = omega arith
        by false e = omega arith
    go m (inr k) = subst (λ (z : ℕ). z ≤ 1) (sym (ap (λ z. cond z (suc (tally (boxes t b es) i j)) (tally (boxes t b es) i j)) off)) m
      where
        off : in_rect (record { left = l; top = t; right = r; below = b }) i j ≡ false
        off = ap (λ z. (leb l i && z) && (leb t j && ltb j b)) (le-ltb i r k) ∙ ap (λ z. z && (leb t j && ltb j b)) (none (leb l i))

-- above the first band
tally-above : (t low : ℕ) (row : List ℕ) (cs : List Change) (high e i j : ℕ) → Bands low row cs high → t ≤ low → j < t → tally (flat t row cs e) i j ≡ 0
tally-above t low row [] high e i j h m k = tally-off t e row i j (ap (λ z. z && ltb j e) (lt-leb t j k))
tally-above t low row (c ∷ cs) high e i j h m k =
    tally-append (boxes t c.at row) (flat c.at c.row cs e) i j
    ∙ ap₂ (λ (y z : ℕ). y + z) (tally-off t c.at row i j (ap (λ z. z && ltb j c.at) (lt-leb t j k))) (tally-above c.at (suc c.at) c.row cs high e i j h.3 (omega arith) (omega arith))

tally-flat : (t low : ℕ) (row : List ℕ) (cs : List Change) (high e i j : ℕ) → Bands low row cs high → Row 4096 row → t ≤ low → tally (flat t row cs e) i j ≤ 1
tally-flat t low row [] high e i j h k m = tally-row t e 0 row 4097 i j k.0
tally-flat t low row (c ∷ cs) high e i j h k m = go (tally-flat c.at (suc c.at) c.row cs high e i j h.3 h.2 (omega arith)) (cases_lt j c.at)
  where
    go : tally (flat c.at c.row cs e) i j ≤ 1 → (j < c.at) ⊎ (c.at ≤ j) → tally (flat t row (c ∷ cs) e) i j ≤ 1
    go f (inl n) =
        omega (arith, tally-append (boxes t c.at row) (flat c.at c.row cs e) i j, tally-row t c.at 0 row 4097 i j k.0, tally-above c.at (suc c.at) c.row cs high e i j h.3 (omega arith) n)
    go f (inr n) =
        omega (arith, f, tally-append (boxes t c.at row) (flat c.at c.row cs e) i j, tally-off t c.at row i j (ap (λ z. leb t j && z) (le-ltb j c.at n) ∙ none (leb t j)))

pub apart : (rs : List Rect) (i j : ℕ) → Canonical rs → tally rs i j ≤ 1
apart rs i j k = subst (λ (z : List Rect). tally z i j ≤ 1) (sym k.are) (tally-flat 0 0 [] k.bands 4097 4096 i j k.good.0 (omega arith, refl) (omega arith))
