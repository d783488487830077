-- How many boxes a set of dots has in canonical form.
use Rattle.std.proofs.Common.{◌≡◌, ℕ, zero, suc, ◌+◌, ◌*◌, ◌<◌, ◌≤◌, Bool, true, false, cond, not, ◌||◌, leb, ◌⊎◌, List, [], ◌∷◌, length, sym, refl, ap, ◌∙◌, subst, inl, inr, mul-le-mul_right, suc-mul, arith}
use Rattle.std.proofs.lemmas.Bool.{ne_eqb, cases_Bool, cases_lt, cases_eq, true≢false, false≢true, lt-leb, le-leb}
use Rattle.std.proofs.lemmas.List.{length-append}
use Rattle.region.specs.Edges.{inside, Between, Row}
use Rattle.region.specs.Bands.{Change, row_at, Bands}
use Rattle.region.specs.Flat.{boxes, flat}
use Rattle.region.specs.Lines.{among, before, Only}
use Rattle.region.proofs.Rising.{turned-at, inside-before, unique}
use Rattle.region.proofs.Flattening.{bands-spread}
use Rattle.region.proofs.Banding.{at-past, at_before, row_here, row-row}

-- how many of X are low or more
many : ℕ → List ℕ → ℕ
many low [] = 0
many low (x ∷ xs) = cond (leb low x) (suc (many low xs)) (many low xs)

many-all : (low : ℕ) (xs : List ℕ) → many low xs ≤ length xs
unfolding many
many-all low [] = omega arith
many-all low (x ∷ xs) = let h = many-all low xs in go (leb low x) h
  where
    go : (b : Bool) → many low xs ≤ length xs → cond b (suc (many low xs)) (many low xs) ≤ suc (length xs)
    go true h = omega arith
    go false h = omega arith

many-less : (low more : ℕ) (xs : List ℕ) → low ≤ more → many more xs ≤ many low xs
unfolding many
many-less low more [] l = omega arith
many-less low more (x ∷ xs) l = go (many-less low more xs l) (cases_lt x more) (cases_lt x low)
  where
    go : many more xs ≤ many low xs → (x < more) ⊎ (more ≤ x) → (x < low) ⊎ (low ≤ x) → cond (leb more x) (suc (many more xs)) (many more xs) ≤ cond (leb low x) (suc (many low xs)) (many low xs)
    go h (inl p) (inl q) = simp (lt-leb more x p, lt-leb low x q) h
    go h (inl p) (inr q) = simp (lt-leb more x p, le-leb low x q) (omega arith)
    go h (inr p) (inl q) = absurd (omega arith)
    go h (inr p) (inr q) = simp (le-leb more x p, le-leb low x q) (omega arith)

many-step : (low e : ℕ) (xs : List ℕ) → among xs e ≡ true → low ≤ e → suc (many (suc e) xs) ≤ many low xs
unfolding many
many-step low e [] h l = absurd (false≢true h)
many-step low e (x ∷ xs) h l = go (λ m. many-step low e xs m l) (cases_eq x e)
  where
    here : x ≡ e → suc (cond (leb (suc e) x) (suc (many (suc e) xs)) (many (suc e) xs)) ≤ cond (leb low x) (suc (many low xs)) (many low xs)
    here q = simp (lt-leb (suc e) x (omega arith), le-leb low x (omega arith)) (let m = many-less low (suc e) xs (omega arith) in omega arith)

    there : suc (many (suc e) xs) ≤ many low xs → (x < suc e) ⊎ (suc e ≤ x) → suc (cond (leb (suc e) x) (suc (many (suc e) xs)) (many (suc e) xs)) ≤ cond (leb low x) (suc (many low xs)) (many low xs)
    there m (inl p) = simp (lt-leb (suc e) x p) (by (leb low x))
      where
        by : (b : Bool) → suc (many (suc e) xs) ≤ cond b (suc (many low xs)) (many low xs)
        by true = omega arith
        by false = m
    there m (inr p) = simp (le-leb (suc e) x p, le-leb low x (omega arith)) (omega arith)

    go : (among xs e ≡ true → suc (many (suc e) xs) ≤ many low xs) → (x ≡ e) ⊎ (x ≡ e → ⊥) → suc (cond (leb (suc e) x) (suc (many (suc e) xs)) (many (suc e) xs)) ≤ cond (leb low x) (suc (many low xs)) (many low xs)
    go rest (inl q) = here q
    go rest (inr q) = there (rest (ap (λ b. b || among xs e) (sym (ne_eqb x e q)) ∙ h)) (cases_lt x (suc e))

-- a row has no more edges than there are columns at which it changes
edges_few : (low : ℕ) (es : List ℕ) (high : ℕ) (X : List ℕ) → Between low es high → ((i : ℕ) → low ≤ i → among X i ≡ false → inside es i ≡ before (inside es) i) → length es ≤ many low X
edges_few low [] high X h k = omega arith
edges_few low (e ∷ es) high X h k =
    let rest : length es ≤ many (suc e) X = edges_few (suc e) es high X h.1 tail in
    let step : suc (many (suc e) X) ≤ many low X = many-step low e X (at (cases_Bool (among X e))) h.0 in
    omega arith
  where
    not_same : (b c : Bool) → not b ≡ not c → b ≡ c
    not_same true true p = refl
    not_same true false p = sym p
    not_same false true p = sym p
    not_same false false p = refl

    in_e : inside (e ∷ es) e ≡ true
    in_e = turned-at e e (inside es e) (omega arith) ∙ ap not (inside-before (suc e) es high e h.1 (omega arith))

    tail : (i : ℕ) → suc e ≤ i → among X i ≡ false → inside es i ≡ before (inside es) i
    tail zero l a = absurd (omega arith)
    tail (suc i) l a = not_same _ _ (sym (turned-at e (suc i) (inside es (suc i)) (omega arith)) ∙ (k (suc i) (omega arith) a ∙ turned-at e i (inside es i) (omega arith)))

    off : (z : ℕ) → z ≡ e → before (inside (e ∷ es)) z ≡ false
    off zero q = refl
    off (suc z) q = inside-before e (e ∷ es) high z (omega arith, h.1) (omega arith)

    at : (among X e ≡ true) ⊎ (among X e ≡ false) → among X e ≡ true
    at (inl p) = p
    at (inr p) = absurd (true≢false (sym in_e ∙ (k e h.0 p ∙ off e refl)))

pub row-few : (es : List ℕ) (high : ℕ) (X : List ℕ) → Between 0 es high → Only X (inside es) → length es ≤ length X
row-few es high X h k = let a = edges_few 0 es high X h (λ i _ m. k i m) in let b = many-all 0 X in omega arith

-- the row above a row
abbrev above : List ℕ → List Change → ℕ → List ℕ
above r cs zero = r
above r cs (suc j) = row_at r cs j

-- a region has no more changes than there are rows at which it changes
changes-few : (low : ℕ) (r : List ℕ) (cs : List Change) (high : ℕ) (Y : List ℕ) → Bands low r cs high → ((j : ℕ) → low ≤ j → j < high → among Y j ≡ false → row_at r cs j ≡ above r cs j) → length cs ≤ many low Y
changes-few low r [] high Y h k = omega arith
changes-few low r (c ∷ cs) high Y h k =
    let rest : length cs ≤ many (suc c.at) Y = changes-few (suc c.at) c.row cs high Y h.3 tail in
    let step : suc (many (suc c.at) Y) ≤ many low Y = many-step low c.at Y (at (cases_Bool (among Y c.at))) h.0 in
    omega arith
  where
    tail : (j : ℕ) → suc c.at ≤ j → j < high → among Y j ≡ false → row_at c.row cs j ≡ above c.row cs j
    tail zero l m a = absurd (omega arith)
    tail (suc j) l m a = sym (at-past r c cs (suc j) (omega arith)) ∙ (k (suc j) (omega arith) m a ∙ at-past r c cs j (omega arith))

    off : (z : ℕ) → z ≡ c.at → above r (c ∷ cs) z ≡ r
    off zero q = refl
    off (suc z) q = at_before r c cs z (omega arith)

    at : (among Y c.at ≡ true) ⊎ (among Y c.at ≡ false) → among Y c.at ≡ true
    at (inl p) = p
    at (inr p) = absurd (h.1 (sym (row_here low r c cs high h) ∙ (k c.at h.0 (bands-spread (suc c.at) c.row cs high h.3) p ∙ off c.at refl)))

boxes-few : (t b : ℕ) (es : List ℕ) → 2 * length (boxes t b es) ≤ length es
boxes-few t b [] = omega arith
boxes-few t b (l ∷ []) = omega arith
boxes-few t b (l ∷ r ∷ es) = let h = boxes-few t b es in omega arith

flat-few : (t low : ℕ) (r : List ℕ) (cs : List Change) (high e w : ℕ) → Bands low r cs high → ((j : ℕ) → low ≤ j → j < high → length (row_at r cs j) ≤ w) →
    2 * length (flat t r cs e) ≤ length r + length cs * w
flat-few t low r [] high e w h k = let p = boxes-few t e r in omega (arith)
flat-few t low r (c ∷ cs) high e w h k =
    let p = boxes-few t c.at r in
    let q = flat-few c.at (suc c.at) c.row cs high e w h.3 (λ j l m. subst (λ z. length z ≤ w) (at-past r c cs j (omega arith)) (k j (omega arith) m)) in
    let here : length c.row ≤ w = subst (λ z. length z ≤ w) (row_here low r c cs high h) (k c.at h.0 (bands-spread (suc c.at) c.row cs high h.3)) in
    omega (arith, length-append (boxes t c.at r) (flat c.at c.row cs e), suc-mul (length cs) w)

-- the two together, for the rows above y
pub region-few : (cs : List Change) (y e : ℕ) (X Y : List ℕ) → Bands 0 [] cs y → ((j : ℕ) → j < y → Only X (inside (row_at [] cs j))) →
    ((i j : ℕ) → j < y → among Y j ≡ false → inside (row_at [] cs j) i ≡ before (λ k. inside (row_at [] cs k) i) j) → 2 * length (flat 0 [] cs e) ≤ length Y * length X
region-few cs y e X Y h columns rows =
    let p = flat-few 0 0 [] cs y e (length X) h (λ j l m. row-few (row_at [] cs j) 4097 X (row j).0 (columns j m)) in
    let q : length cs ≤ many 0 Y = changes-few 0 [] cs y Y h (λ j l m a. same j m a) in
    let r : length cs ≤ length Y = let z = many-all 0 Y in omega arith in
    omega (arith, mul-le-mul_right (length X) r)
  where
    empty : Row 4096 []
    empty = (omega arith, refl)

    row : (j : ℕ) → Row 4096 (row_at [] cs j)
    row j = row-row 0 [] cs y j h empty

    same : (j : ℕ) → j < y → among Y j ≡ false → row_at [] cs j ≡ above [] cs j
    same zero m a = unique 0 (row_at [] cs 0) 4097 [] 4097 (row 0).0 (omega arith) (λ i. rows i 0 m a)
    same (suc j) m a = unique 0 (row_at [] cs (suc j)) 4097 (row_at [] cs j) 4097 (row (suc j)).0 (row j).0 (λ i. rows i (suc j) m a)
