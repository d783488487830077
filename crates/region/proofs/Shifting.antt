-- A region that is moved is a region.
use Rattle.std.proofs.Common.{◌≡◌, ℕ, suc, ◌+◌, ◌-◌, ◌≤◌, Bool, true, false, not, ◌&&◌, ◌||◌, ltb, leb, ◌≢◌, List, [], ◌∷◌, ◌++◌, sym, refl, ap, ◌∙◌, subst, ap₂, arith}
use Rattle.std.proofs.lemmas.Bool.{true≢false}
use Rattle.std.proofs.lemmas.Bool.Decides.{nat_tests}
use Rattle.geometry.specs.declared.Rect.{Rect}
use Rattle.region.specs.Edges.{odd, Between, Row}
use Rattle.region.specs.Bands.{Change, last_row, Bands, Region}
use Rattle.region.specs.Flat.{covers, boxes, flat, Canonical}
use Rattle.std.proofs.lemmas.List.{map-append}
use Rattle.std.specs.List.{AllZip}
use Rattle.region.specs.Shift.{shifted, shifted_one, Stays, Shifts}

-- one box, along one side: what lies in it
along : (a b r l i : ℕ) → l ≤ a + r → (leb (a + r - l) i && ltb i (b + r - l)) ≡ (leb r (i + l) && (leb a (i + l - r) && ltb (i + l - r) b))
along a b r l i h = grind (arith, nat_tests)

module _ (r l d u : ℕ) where
  abbrev across-of : List ℕ → List ℕ
  across-of [] = []
  across-of (e ∷ es) = (e + r - l) ∷ across-of es

  abbrev In : List ℕ → Type 0
  In [] = Unit {0}
  In (e ∷ es) = ((l ≤ e + r) × (e + r ≤ 4096 + l)) × In es

  abbrev changes-of : List Change → List Change
  changes-of [] = []
  changes-of (c ∷ cs) = record { at = c.at + d - u; row = across-of c.row } ∷ changes-of cs

  abbrev InChanges : List Change → Type 0
  InChanges [] = Unit {0}
  InChanges (c ∷ cs) = ((u ≤ c.at + d) × (c.at + d ≤ 4096 + u)) × In c.row × InChanges cs

  between-of : (low : ℕ) (es : List ℕ) (high lo : ℕ) → Between low es high → In es → lo + l ≤ low + r → lo ≤ 4097 → Between lo (across-of es) 4097
  between-of low [] high lo h k m n = n
  between-of low (e ∷ es) high lo h k m n = (omega arith, between-of (suc e) es high (suc (e + r - l)) h.1 k.1 (omega arith) (omega arith))

  odd-of : (es : List ℕ) → odd (across-of es) ≡ odd es
  odd-of [] = refl
  odd-of (e ∷ es) = ap not (odd-of es)

  same_of : (es fs : List ℕ) → In es → In fs → across-of es ≡ across-of fs → es ≡ fs
  same_of [] [] h k q = refl
  same_of [] (f ∷ fs) h k q = let z : ◌≡◌ {A = ℕ} 0 1 = cc in absurd (omega arith)
  same_of (e ∷ es) [] h k q = let z : ◌≡◌ {A = ℕ} 0 1 = cc in absurd (omega arith)
  same_of (e ∷ es) (f ∷ fs) h k q =
      let a : e + r - l ≡ f + r - l = cc in
      let b : across-of es ≡ across-of fs = cc in
      let p : e ≡ f = omega arith in
      let w : es ≡ fs = same_of es fs h.1 k.1 b in
      cc

  row_of : (es : List ℕ) → Row 4096 es → In es → Row 4096 (across-of es)
  row_of [] h k = (omega arith, refl)
  row_of (e ∷ es) h k = ((omega arith, between-of (suc e) es 4097 (suc (e + r - l)) h.0.1 k.1 (omega arith) (omega arith)), odd-of (e ∷ es) ∙ h.1)

  bands-of : (low : ℕ) (row : List ℕ) (cs : List Change) (high lo : ℕ) → Bands low row cs high → In row → InChanges cs → lo + u ≤ low + d → lo ≤ 4097 → Bands lo (across-of row) (changes-of cs) 4097
  bands-of low row [] high lo h i k m n = n
  bands-of low row (c ∷ cs) high lo h i k m n =
      (omega arith, (λ q. h.1 (same_of c.row row k.1 i q)), row_of c.row h.2 k.1, bands-of (suc c.at) c.row cs high (suc (c.at + d - u)) h.3 k.1 k.2 (omega arith) (omega arith))

  last_of : (row : List ℕ) (cs : List Change) → last_row (across-of row) (changes-of cs) ≡ across-of (last_row row cs)
  last_of row [] = refl
  last_of row (c ∷ cs) = last_of c.row cs

  boxes-of : (t b : ℕ) (es : List ℕ) → boxes (t + d - u) (b + d - u) (across-of es) ≡ shifted r l d u (boxes t b es)
  boxes-of t b [] = refl
  boxes-of t b (e ∷ []) = refl
  boxes-of t b (e ∷ f ∷ es) = ap (λ z. record { left = e + r - l; top = t + d - u; right = f + r - l; below = b + d - u } ∷ z) (boxes-of t b es)

  flat-of : (t : ℕ) (row : List ℕ) (cs : List Change) (e : ℕ) → flat (t + d - u) (across-of row) (changes-of cs) (e + d - u) ≡ shifted r l d u (flat t row cs e)
  flat-of t row [] e = boxes-of t e row
  flat-of t row (c ∷ cs) e =
      ap₂ (λ y z. y ++ z) (boxes-of t c.at row) (flat-of c.at c.row cs e) ∙ sym (map-append (shifted_one r l d u) (boxes t c.at row) (flat c.at c.row cs e))

  stays-left : (xs ys : List Rect) → Stays r l d u (xs ++ ys) → Stays r l d u xs
  stays-left [] ys h = tt
  stays-left (x ∷ xs) ys h = (h.0, stays-left xs ys h.1)

  stays-right : (xs ys : List Rect) → Stays r l d u (xs ++ ys) → Stays r l d u ys
  stays-right [] ys h = h
  stays-right (x ∷ xs) ys h = stays-right xs ys h.1

  in_row : (t b low : ℕ) (es : List ℕ) (high : ℕ) → Between low es high → odd es ≡ false → Stays r l d u (boxes t b es) → In es
  in_row t b low [] high h o k = tt
  in_row t b low (e ∷ []) high h o k = absurd (true≢false o)
  in_row t b low (e ∷ f ∷ es) high h o k = ((omega arith, omega arith), ((omega arith, omega arith), in_row t b (suc f) es high h.1.1 (not-not (odd es) o) k.1))
    where
      not-not : (z : Bool) → not (not z) ≡ false → z ≡ false
      not-not true q = q
      not-not false q = refl

-- the end of the last band does not matter where it has no boxes
flat-end : (t : ℕ) (row : List ℕ) (cs : List Change) (e f : ℕ) → last_row row cs ≡ [] → flat t row cs e ≡ flat t row cs f
flat-end t row [] e f h = ap (λ z. boxes t e z) h ∙ sym (ap (λ z. boxes t f z) h)
flat-end t row (c ∷ cs) e f h = ap (λ z. boxes t c.at row ++ z) (flat-end c.at c.row cs e f h)

module _ (r l d u : ℕ) where
  at_in : (t low : ℕ) (row : List ℕ) (at : ℕ) (crow : List ℕ) (cs : List Change) (high e : ℕ) → t ≤ low → low ≤ at → crow ≢ row → odd row ≡ false → odd crow ≡ false → Bands (suc at) crow cs high → last_row crow cs ≡ [] →
      Stays r l d u (boxes t at row) → Stays r l d u (flat at crow cs e) → (u ≤ at + d) × (at + d ≤ 4096 + u)
  at_in t low [] at [] cs high e m n q o p h z a b = absurd (q refl)
  at_in t low [] at (x ∷ []) cs high e m n q o p h z a b = absurd (true≢false p)
  at_in t low [] at (x ∷ y ∷ es) [] high e m n q o p h z a b = let w : ◌≡◌ {A = ℕ} 0 1 = cc in absurd (omega arith)
  at_in t low [] at (x ∷ y ∷ es) (c ∷ cs) high e m n q o p h z a b = (b.0.2, omega arith)
  at_in t low (x ∷ []) at crow cs high e m n q o p h z a b = absurd (true≢false o)
  at_in t low (x ∷ y ∷ es) at crow cs high e m n q o p h z a b = (omega arith, a.0.3)

  in-bands : (t low : ℕ) (row : List ℕ) (cs : List Change) (high e : ℕ) → t ≤ low → Bands low row cs high → Row 4096 row → last_row row cs ≡ [] → Stays r l d u (flat t row cs e) → In r l d u row × InChanges r l d u cs
  in-bands t low row [] high e m h k z s = (subst (In r l d u) (sym z) tt, tt)
  in-bands t low row (c ∷ cs) high e m h k z s =
      let A = stays-left r l d u (boxes t c.at row) (flat c.at c.row cs e) s in
      let B = stays-right r l d u (boxes t c.at row) (flat c.at c.row cs e) s in
      let ih = in-bands c.at (suc c.at) c.row cs high e (omega arith) h.3 h.2 z B in
      (in_row r l d u t c.at 0 row 4097 k.0 k.1 A, (at_in t low row c.at c.row cs high e m h.0 h.1 k.1 h.2.1 h.3 z A B, ih.0, ih.1))

  good_of : (cs : List Change) → Region 4096 cs → InChanges r l d u cs → Region 4096 (changes-of r l d u cs)
  good_of [] g k = (omega arith, refl)
  good_of (c ∷ cs) g k = (
    (
      omega arith,
      (λ q. g.0.1 (same_of r l d u c.row [] k.1 tt q)),
      row_of r l d u c.row g.0.2 k.1,
      bands-of r l d u (suc c.at) c.row cs 4097 (suc (c.at + d - u)) g.0.3 k.1 k.2 (omega arith) (omega arith),
    ),
    last_of r l d u c.row cs ∙ ap (across-of r l d u) g.1,
  )

  flat-begin : (t v : ℕ) (cs : List Change) (e : ℕ) → flat t [] cs e ≡ flat v [] cs e
  flat-begin t v [] e = refl
  flat-begin t v (c ∷ cs) e = refl

  pub canonical-of : (rs : List Rect) → Canonical rs → Stays r l d u rs → Canonical (shifted r l d u rs)
  canonical-of rs k s =
      record {
        bands = changes-of r l d u k.bands;
        good = g;
        are =
            ap (shifted r l d u) k.are
            ∙ (sym (flat-of r l d u 0 [] k.bands 4096)
            ∙ (flat-begin (0 + d - u) 0 (changes-of r l d u k.bands) (4096 + d - u) ∙ flat-end 0 [] (changes-of r l d u k.bands) (4096 + d - u) 4096 g.1));
      }
    where
      ins : InChanges r l d u k.bands
      ins = (in-bands 0 0 [] k.bands 4097 4096 (omega arith) k.good.0 (omega arith, refl) k.good.1 (subst (Stays r l d u) k.are s)).1

      g : Region 4096 (changes-of r l d u k.bands)
      g = good_of k.bands k.good ins

  pub shifts_of : (rs : List Rect) → Stays r l d u rs → Shifts r l d u rs (shifted r l d u rs)
  shifts_of [] s i j = sym (none (leb r (i + l) && leb d (j + u)))
    where
      none : (b : Bool) → (b && false) ≡ false
      none true = refl
      none false = refl
  shifts_of (b ∷ rs) s i j =
      ap₂ (λ y z. (y && z) || covers (shifted r l d u rs) i j) (along b.left b.right r l i s.0.0) (along b.top b.below d u j s.0.2)
      ∙ (ap (λ z. ((leb r (i + l) && (leb b.left (i + l - r) && ltb (i + l - r) b.right)) && (leb d (j + u) && (leb b.top (j + u - d) && ltb (j + u - d) b.below))) || z) (shifts_of rs s.1 i j)
      ∙ both (leb r (i + l)) (leb d (j + u)) (leb b.left (i + l - r) && ltb (i + l - r) b.right) (leb b.top (j + u - d) && ltb (j + u - d) b.below) (covers rs (i + l - r) (j + u - d)))
    where
      both : (p q x y z : Bool) → (((p && x) && (q && y)) || ((p && q) && z)) ≡ ((p && q) && ((x && y) || z))
      both true true x y z = refl
      both true false true y z = refl
      both true false false y z = refl
      both false q x y z = refl

  -- what moves each box that stays moves them all
  pub each-moved : (R : Rect → Rect → Type 0) → ((x y : Rect) → R x y → Stays r l d u (x ∷ []) → y ≡ shifted_one r l d u x) → (xs ys : List Rect) → Stays r l d u xs → AllZip R xs ys → ys ≡ shifted r l d u xs
  each-moved R e [] [] s h = refl
  each-moved R e [] (y ∷ ys) s h = absurd h
  each-moved R e (x ∷ xs) [] s h = absurd h
  each-moved R e (x ∷ xs) (y ∷ ys) s h = ap₂ (λ b bs. b ∷ bs) (e x y h.0 (s.0, tt)) (each-moved R e xs ys s.1 h.1)
