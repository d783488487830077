-- Boxes in bands.
use Rattle.std.proofs.Common.{◌≡◌, ℕ, suc, ◌<◌, ◌≤◌, Bool, true, false, ◌&&◌, ◌||◌, ltb, leb, ◌⊎◌, List, [], ◌∷◌, ◌++◌, sym, refl, ap, ◌∙◌, ap₂, inl, inr, arith}
use Rattle.std.proofs.lemmas.Bool.{cases_lt, lt-leb, le-leb, lt-ltb, le-ltb, true≢false}
use Rattle.std.proofs.lemmas.List.{append_assoc}
use Rattle.geometry.specs.declared.Rect.{Rect}
use Rattle.region.specs.Edges.{inside, odd, Row}
use Rattle.region.specs.Boxes.{edges, Rows, across}
use Rattle.region.specs.Bands.{Change, row_at, Bands}
use Rattle.region.specs.Flat.{covers, boxes, flat}
use Rattle.region.proofs.Rising.{not-not}
use Rattle.region.proofs.Pairs.{across-inside}

pub edges-boxes : (t b : ℕ) (es : List ℕ) → odd es ≡ false → edges (boxes t b es) ≡ es
edges-boxes t b [] h = refl
edges-boxes t b (l ∷ []) h = absurd (true≢false h)
edges-boxes t b (l ∷ r ∷ es) h = ap (λ z. l ∷ r ∷ z) (edges-boxes t b es (sym (not-not (odd es)) ∙ h))

pub rows-boxes : (t b : ℕ) (es : List ℕ) → Rows t b (boxes t b es)
rows-boxes t b [] = tt
rows-boxes t b (l ∷ []) = tt
rows-boxes t b (l ∷ r ∷ es) = (refl, refl, rows-boxes t b es)

pub boxes-edges : (t b : ℕ) (rs : List Rect) → Rows t b rs → boxes t b (edges rs) ≡ rs
boxes-edges t b [] h = refl
boxes-edges t b (r ∷ rs) h =
    let w = boxes-edges t b rs h.2 in
    let e : ◌≡◌ {A = Rect} (record { left = r.left; top = t; right = r.right; below = b }) r = λ i. record { left = r.left; top = sym h.0 i; right = r.right; below = sym h.1 i } in
    cc (e, w)

pub covers-append : (xs ys : List Rect) (i j : ℕ) → covers (xs ++ ys) i j ≡ (covers xs i j || covers ys i j)
covers-append [] ys i j = refl
covers-append (x ∷ xs) ys i j =
    ap (λ z. ((leb x.left i && ltb i x.right) && (leb x.top j && ltb j x.below)) || z) (covers-append xs ys i j)
    ∙ or_assoc ((leb x.left i && ltb i x.right) && (leb x.top j && ltb j x.below)) (covers xs i j) (covers ys i j)
  where
    or_assoc : (p q r : Bool) → (p || (q || r)) ≡ ((p || q) || r)
    or_assoc true q r = refl
    or_assoc false q r = refl

-- the boxes of one band
pub covers-rows : (t b : ℕ) (rs : List Rect) (i j : ℕ) → Rows t b rs → covers rs i j ≡ (across rs i && (leb t j && ltb j b))
covers-rows t b [] i j h = refl
covers-rows t b (r ∷ rs) i j h =
    ap₂ (λ p q. ((leb r.left i && ltb i r.right) && (leb p j && ltb j q)) || covers rs i j) h.0 h.1
    ∙ (ap (λ z. ((leb r.left i && ltb i r.right) && (leb t j && ltb j b)) || z) (covers-rows t b rs i j h.2)
    ∙ spread (leb r.left i && ltb i r.right) (across rs i) (leb t j && ltb j b))
  where
    spread : (p q r : Bool) → ((p && r) || (q && r)) ≡ ((p || q) && r)
    spread true true true = refl
    spread true true false = refl
    spread true false true = refl
    spread true false false = refl
    spread false q r = refl

pub covers-boxes : (t b : ℕ) (es : List ℕ) (i j : ℕ) → Row 4096 es → covers (boxes t b es) i j ≡ (inside es i && (leb t j && ltb j b))
covers-boxes t b es i j h =
    let e = edges-boxes t b es h.1 in
    covers-rows t b (boxes t b es) i j (rows-boxes t b es)
    ∙ ap (λ z. z && (leb t j && ltb j b)) (across-inside 0 (boxes t b es) 4097 i (rw e h.0) ∙ ap (λ z. inside z i) e)

-- one more band at the end
pub flat-push : (t : ℕ) (r : List ℕ) (cs : List Change) (c : Change) (e : ℕ) → flat t r (cs ++ c ∷ []) e ≡ flat t r cs c.at ++ boxes c.at e c.row
flat-push t r [] c e = refl
flat-push t r (d ∷ cs) c e = ap (λ z. boxes t d.at r ++ z) (flat-push d.at d.row cs c e) ∙ sym (append_assoc (boxes t d.at r) (flat d.at d.row cs c.at) (boxes c.at e c.row))

pub bands-spread : (low : ℕ) (r : List ℕ) (cs : List Change) (high : ℕ) → Bands low r cs high → low ≤ high
bands-spread low r [] high h = h
bands-spread low r (c ∷ cs) high h = let k = bands-spread (suc c.at) c.row cs high h.3 in omega arith

-- what the boxes of all bands cover
pub flat-covers : (t low : ℕ) (r : List ℕ) (cs : List Change) (high e i j : ℕ) → Bands low r cs high → Row 4096 r → t ≤ low → high ≤ suc e →
    covers (flat t r cs e) i j ≡ (inside (row_at r cs j) i && (leb t j && ltb j e))
flat-covers t low r [] high e i j h k l m = covers-boxes t e r i j k
flat-covers t low r (c ∷ cs) high e i j h k l m =
    covers-append (boxes t c.at r) (flat c.at c.row cs e) i j
    ∙ (ap₂ ◌||◌ (covers-boxes t c.at r i j k) (flat-covers c.at (suc c.at) c.row cs high e i j h.3 h.2 (omega arith) m) ∙ go (cases_lt j c.at))
  where
    ends : c.at ≤ e
    ends = omega (arith, bands-spread (suc c.at) c.row cs high h.3)

    none_left : (p : Bool) → (p && false) ≡ false
    none_left true = refl
    none_left false = refl

    or-none : (p : Bool) → (p || false) ≡ p
    or-none true = refl
    or-none false = refl

    go : (j < c.at) ⊎ (c.at ≤ j) → ((inside r i && (leb t j && ltb j c.at)) || (inside (row_at c.row cs j) i && (leb c.at j && ltb j e))) ≡ (inside (row_at r (c ∷ cs) j) i && (leb t j && ltb j e))
    go (inl n) = simp (lt-leb c.at j n, lt-ltb j c.at n, lt-ltb j e (omega (arith, ends)), none_left, or-none)
    go (inr n) = simp (le-leb c.at j n, le-ltb j c.at n, le-leb t j (omega arith), none_left)
