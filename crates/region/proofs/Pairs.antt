-- A row of boxes and its edges, two to a box.
use Rattle.std.proofs.Common.{◌≡◌, ℕ, zero, suc, ◌+◌, ◌-◌, ◌*◌, ◌/◌, ◌%◌, ◌<◌, ◌≤◌, Bool, true, false, cond, not, eqb, ◌⊎◌, List, [], ◌∷◌, ◌++◌, length, get_or, take, drop, set, sym, refl, ap, ◌∙◌, inl, inr, arith}
use Rattle.std.proofs.lemmas.Bool.{eq-eqb, ne_eqb, cases_eq, cases_lt, lt-leb, le-leb, lt-ltb, le-ltb}
use Rattle.std.proofs.lemmas.List.{take_more_set, drop-set-lt, drop-drop}
use Rattle.geometry.specs.declared.Rect.{Rect}
use Rattle.region.specs.Edges.{Between, inside, odd}
use Rattle.geometry.specs.Boxes.{blank}
use Rattle.region.specs.declared.Op.{Op}
use Rattle.region.specs.declared.Op.TheVariants.{Join, Meet, Cut}
use Rattle.region.specs.Boxes.{edges, placed, none, across, Rows, act}
use Rattle.region.proofs.Rising.{not-not, inside-before}

pub length-edges : (rs : List Rect) → length (edges rs) ≡ 2 * length rs
length-edges [] = refl
length-edges (r ∷ rs) = let e = length-edges rs in omega arith

pub at_left : (rs : List Rect) (m : ℕ) (d : Rect) (D : ℕ) → m < length rs → get_or (edges rs) (2 * m) D ≡ (get_or rs m d).left
at_left [] m d D h = absurd (omega arith)
at_left (r ∷ rs) zero d D h = refl
at_left (r ∷ rs) (suc m) d D h = let e : 2 * suc m ≡ suc (suc (2 * m)) = omega arith in rw e (at_left rs m d D (omega arith))

pub at_right : (rs : List Rect) (m : ℕ) (d : Rect) (D : ℕ) → m < length rs → get_or (edges rs) (suc (2 * m)) D ≡ (get_or rs m d).right
at_right [] m d D h = absurd (omega arith)
at_right (r ∷ rs) zero d D h = refl
at_right (r ∷ rs) (suc m) d D h = let e : 2 * suc m ≡ suc (suc (2 * m)) = omega arith in rw e (at_right rs m d D (omega arith))

pub put-left : (rs : List Rect) (m : ℕ) (r : Rect) → m < length rs → take (suc (2 * m)) (edges (set rs m r)) ≡ take (2 * m) (edges rs) ++ r.left ∷ []
put-left [] m r h = absurd (omega arith)
put-left (s ∷ rs) zero r h = refl
put-left (s ∷ rs) (suc m) r h =
    let e : 2 * suc m ≡ suc (suc (2 * m)) = omega arith in
    rw e (ap (λ l. s.left ∷ s.right ∷ l) (put-left rs m r (omega arith)))

pub put_right : (rs : List Rect) (m : ℕ) (r d : Rect) → m < length rs → r.left ≡ (get_or rs m d).left →
    take (suc (suc (2 * m))) (edges (set rs m r)) ≡ take (suc (2 * m)) (edges rs) ++ r.right ∷ []
put_right [] m r d h q = absurd (omega arith)
put_right (s ∷ rs) zero r d h q = ap (λ z. z ∷ r.right ∷ []) q
put_right (s ∷ rs) (suc m) r d h q =
    let e : 2 * suc m ≡ suc (suc (2 * m)) = omega arith in
    rw e (ap (λ l. s.left ∷ s.right ∷ l) (put_right rs m r d (omega arith) q))

-- the whole row up to a box
pub edges-take : (rs : List Rect) (m : ℕ) → take (2 * m) (edges rs) ≡ edges (take m rs)
edges-take rs zero = refl
edges-take [] (suc m) = let e : 2 * suc m ≡ suc (suc (2 * m)) = omega arith in rw e refl
edges-take (s ∷ rs) (suc m) =
    let e : 2 * suc m ≡ suc (suc (2 * m)) = omega arith in
    rw e (ap (λ l. s.left ∷ s.right ∷ l) (edges-take rs m))

pub at-even : (rs : List Rect) (k D : ℕ) (d : Rect) → k % 2 ≡ 0 → k / 2 < length rs → (get_or rs (k / 2) d).left ≡ get_or (edges rs) k D
at-even rs k D d h l = let e : 2 * (k / 2) ≡ k = omega arith in sym (at_left rs (k / 2) d D l) ∙ ap (λ z. get_or (edges rs) z D) e

pub at-odd : (rs : List Rect) (k D : ℕ) (d : Rect) → (k % 2 ≡ 0 → ⊥) → k / 2 < length rs → (get_or rs (k / 2) d).right ≡ get_or (edges rs) k D
at-odd rs k D d h l = let e : suc (2 * (k / 2)) ≡ k = omega arith in sym (at_right rs (k / 2) d D l) ∙ ap (λ z. get_or (edges rs) z D) e

pub edges_placed : (rs : List Rect) (n x t b : ℕ) → n < 2 * length rs → take (n + 1) (edges (placed rs n x t b)) ≡ take n (edges rs) ++ x ∷ []
edges_placed rs n x t b h = go (cases_eq (n % 2) 0)
  where
    r₀ : Rect
    r₀ = record { left = x; top = t; right = none; below = b }

    r₁ : Rect
    r₁ = record { left = (get_or rs (n / 2) blank).left; top = t; right = x; below = b }

    go : (n % 2 ≡ 0) ⊎ (n % 2 ≡ 0 → ⊥) → take (n + 1) (edges (placed rs n x t b)) ≡ take n (edges rs) ++ x ∷ []
    go (inl e) =
        let e₁ : n + 1 ≡ suc (2 * (n / 2)) = omega arith in
        let e₂ : 2 * (n / 2) ≡ n = omega arith in
        ap (λ q. take (n + 1) (edges (set rs (n / 2) (cond q r₀ r₁)))) (eq-eqb (n % 2) 0 e)
        ∙ (ap (λ z. take z (edges (set rs (n / 2) r₀))) e₁ ∙ (put-left rs (n / 2) r₀ (omega arith) ∙ ap (λ z. take z (edges rs) ++ x ∷ []) e₂))
    go (inr e) =
        let e₁ : n + 1 ≡ suc (suc (2 * (n / 2))) = omega arith in
        let e₂ : suc (2 * (n / 2)) ≡ n = omega arith in
        ap (λ q. take (n + 1) (edges (set rs (n / 2) (cond q r₀ r₁)))) (ne_eqb (n % 2) 0 e)
        ∙ (ap (λ z. take z (edges (set rs (n / 2) r₁))) e₁ ∙ (put_right rs (n / 2) r₁ blank (omega arith) refl ∙ ap (λ z. take z (edges rs) ++ x ∷ []) e₂))

pub odd-edges : (rs : List Rect) → odd (edges rs) ≡ false
odd-edges [] = refl
odd-edges (r ∷ rs) = not-not (odd (edges rs)) ∙ odd-edges rs

-- what a row of boxes covers, by its edges
pub across-inside : (low : ℕ) (rs : List Rect) (high i : ℕ) → Between low (edges rs) high → across rs i ≡ inside (edges rs) i
across-inside low [] high i h = refl
across-inside low (r ∷ rs) high i h = go (across-inside (suc r.right) rs high i h.1.1) (cases_lt i r.left) (cases_lt i r.right)
  where
    go : across rs i ≡ inside (edges rs) i → (i < r.left) ⊎ (r.left ≤ i) → (i < r.right) ⊎ (r.right ≤ i) → across (r ∷ rs) i ≡ inside (edges (r ∷ rs)) i
    go e (inl l) m = simp (lt-leb r.left i l, lt-leb r.right i (omega arith)) e
    go e (inr l) (inl m) =
        simp (le-leb r.left i l, lt-leb r.right i m, lt-ltb i r.right m) (sym (ap not (inside-before (suc r.right) (edges rs) high i h.1.1 (omega arith))))
    go e (inr l) (inr m) = simp (le-leb r.left i l, le-leb r.right i m, le-ltb i r.right m) (e ∙ sym (not-not (inside (edges rs) i)))

-- the rows of the boxes
rows-push : (t b : ℕ) (rs : List Rect) (r : Rect) → Rows t b rs → r.top ≡ t → r.below ≡ b → Rows t b (rs ++ r ∷ [])
rows-push t b [] r h p q = (p, q, tt)
rows-push t b (s ∷ rs) r h p q = (h.0, h.1, rows-push t b rs r h.2 p q)

rows-less : (t b : ℕ) (rs : List Rect) (m k : ℕ) → m ≤ k → Rows t b (take k rs) → Rows t b (take m rs)
rows-less t b rs zero k l h = tt
rows-less t b rs (suc m) zero l h = absurd (omega arith)
rows-less t b [] (suc m) (suc k) l h = tt
rows-less t b (s ∷ rs) (suc m) (suc k) l h = (h.0, h.1, rows-less t b rs m k (omega arith) h.2)

pub rows-placed : (rs : List Rect) (n x t b : ℕ) → n < 2 * length rs → Rows t b (take ((n + 1) / 2) rs) → Rows t b (take ((n + 1 + 1) / 2) (placed rs n x t b))
rows-placed rs n x t b l h =
    let e : (n + 1 + 1) / 2 ≡ n / 2 + 1 = omega arith in
    rw e (rw (take_more_set rs (n / 2) r (omega arith)) (rows-push t b (take (n / 2) rs) r (rows-less t b rs (n / 2) ((n + 1) / 2) (omega arith) h) (which (eqb (n % 2) 0)).0 (which (eqb (n % 2) 0)).1))
  where
    r₀ : Rect
    r₀ = record { left = x; top = t; right = none; below = b }

    r₁ : Rect
    r₁ = record { left = (get_or rs (n / 2) blank).left; top = t; right = x; below = b }

    r : Rect
    r = cond (eqb (n % 2) 0) r₀ r₁

    which : (z : Bool) → ((cond z r₀ r₁).top ≡ t) × ((cond z r₀ r₁).below ≡ b)
    which true = (refl, refl)
    which false = (refl, refl)

-- and what lies past them stays
pub rest-placed : (rs start : List Rect) (n x t b : ℕ) → drop ((n + 1) / 2) rs ≡ drop ((n + 1) / 2) start → drop ((n + 1 + 1) / 2) (placed rs n x t b) ≡ drop ((n + 1 + 1) / 2) start
rest-placed rs start n x t b h =
    let k : ℕ = (n + 1 + 1) / 2 - (n + 1) / 2 in
    let e : (n + 1) / 2 + k ≡ (n + 1 + 1) / 2 = omega arith in
    drop-set-lt ((n + 1 + 1) / 2) rs (n / 2) _ (omega arith)
    ∙ (ap (λ z. drop z rs) (sym e) ∙ (sym (drop-drop k ((n + 1) / 2) rs) ∙ (ap (drop k) h ∙ (drop-drop k ((n + 1) / 2) start ∙ ap (λ z. drop z start) e))))

-- of two sets that lack a dot no operation makes one that has it
pub act-none : (o : Op) → act o false false ≡ false
act-none Join = refl
act-none Meet = refl
act-none Cut = refl
