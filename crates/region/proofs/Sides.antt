-- The lines of some boxes.
use Rattle.std.proofs.Common.{◌≡◌, ℕ, zero, suc, ◌+◌, ◌*◌, ◌<◌, ◌≤◌, Bool, true, false, ◌&&◌, ◌||◌, eqb, ltb, leb, ◌⊎◌, List, [], ◌∷◌, length, get_or, take, sym, refl, ap, ◌∙◌, ap₂, inl, inr, mul_assoc, mul_left_comm, arith}
use Rattle.std.proofs.lemmas.Bool.{eq-eqb, cases_lt, lt-leb, le-leb, lt-ltb, le-ltb, true≢false, or_right}
use Rattle.geometry.specs.declared.Rect.{Rect}
use Rattle.geometry.specs.Boxes.{blank}
use Rattle.region.specs.declared.Op.{Op}
use Rattle.region.specs.Boxes.{edges, act}
use Rattle.region.specs.Flat.{covers}
use Rattle.region.specs.Lines.{among, Only, Lines, room_for}
use Rattle.region.proofs.Pairs.{act-none}

-- the rows where boxes begin and end
abbrev pub sides : List Rect → List ℕ
sides [] = []
sides (r ∷ rs) = r.top ∷ r.below ∷ sides rs

pub length-sides : (rs : List Rect) → length (sides rs) ≡ 2 * length rs
length-sides [] = refl
length-sides (r ∷ rs) = let e = length-sides rs in omega arith

abbrev pub On : List ℕ → List ℕ → Rect → Type 0
On X Y r = (among X r.left ≡ true) × (among X r.right ≡ true) × (among Y r.top ≡ true) × (among Y r.below ≡ true)

abbrev pub AllOn : List ℕ → List ℕ → List Rect → Type 0
AllOn X Y [] = Unit {0}
AllOn X Y (r ∷ rs) = On X Y r × AllOn X Y rs

more : (x : ℕ) (X : List ℕ) (i : ℕ) → among X i ≡ true → among (x ∷ X) i ≡ true
more x X i h = or_right (eqb x i) (among X i) h

on-more : (a b c d : ℕ) (X Y : List ℕ) (rs : List Rect) → AllOn X Y rs → AllOn (a ∷ b ∷ X) (c ∷ d ∷ Y) rs
on-more a b c d X Y [] h = tt
on-more a b c d X Y (r ∷ rs) h = (
  (more a (b ∷ X) r.left (more b X r.left h.0.0), more a (b ∷ X) r.right (more b X r.right h.0.1), more c (d ∷ Y) r.top (more d Y r.top h.0.2), more c (d ∷ Y) r.below (more d Y r.below h.0.3)),
  on-more a b c d X Y rs h.1,
)

here : (x : ℕ) (X : List ℕ) → among (x ∷ X) x ≡ true
here x X = ap (λ b. b || among X x) (eq-eqb x x refl)

-- a box is on its own lines, before any others
pub on-first : (r : Rect) (X Y : List ℕ) → On (r.left ∷ r.right ∷ X) (r.top ∷ r.below ∷ Y) r
on-first r X Y =
    (here r.left (r.right ∷ X), more r.left (r.right ∷ X) r.right (here r.right X), here r.top (r.below ∷ Y), more r.top (r.below ∷ Y) r.below (here r.below Y))

pub on-own : (rs : List Rect) → AllOn (edges rs) (sides rs) rs
on-own [] = tt
on-own (r ∷ rs) = (on-first r (edges rs) (sides rs), on-more r.left r.right r.top r.below (edges rs) (sides rs) rs (on-own rs))

pub on-take : (X Y : List ℕ) (rs : List Rect) (i : ℕ) → AllOn X Y rs → AllOn X Y (take i rs)
on-take X Y rs zero h = tt
on-take X Y [] (suc i) h = tt
on-take X Y (r ∷ rs) (suc i) h = (h.0, on-take X Y rs i h.1)

pub on-at : (X Y : List ℕ) (rs : List Rect) (i : ℕ) → i < length rs → AllOn X Y rs → AllOn X Y (get_or rs i blank ∷ [])
on-at X Y [] i l h = absurd (omega arith)
on-at X Y (r ∷ rs) zero l h = (h.0, tt)
on-at X Y (r ∷ rs) (suc i) l h = on-at X Y rs i (omega arith) h.1

-- a number that is not among the lines is none of them
apart : (X : List ℕ) (x i : ℕ) → among X x ≡ true → among X i ≡ false → x ≡ i → ⊥
apart X x i h k e = true≢false (sym h ∙ (ap (among X) e ∙ k))

-- a stretch of numbers changes at its ends
stretch-step : (a b i : ℕ) → (a ≡ suc i → ⊥) → (b ≡ suc i → ⊥) → (leb a (suc i) && ltb (suc i) b) ≡ (leb a i && ltb i b)
stretch-step a b i p q = ap₂ ◌&&◌ (left (cases_lt i a)) (right (cases_lt i b))
  where
    left : (i < a) ⊎ (a ≤ i) → leb a (suc i) ≡ leb a i
    left (inl l) = lt-leb a (suc i) (omega arith) ∙ sym (lt-leb a i l)
    left (inr l) = le-leb a (suc i) (omega arith) ∙ sym (le-leb a i l)

    right : (i < b) ⊎ (b ≤ i) → ltb (suc i) b ≡ ltb i b
    right (inl l) = lt-ltb (suc i) b (omega arith) ∙ sym (lt-ltb i b l)
    right (inr l) = le-ltb (suc i) b (omega arith) ∙ sym (le-ltb i b l)

stretch-start : (a b : ℕ) → (a ≡ 0 → ⊥) → (leb a 0 && ltb 0 b) ≡ false
stretch-start a b p = ap (λ z. z && ltb 0 b) (lt-leb a 0 (omega arith))

none_right : (b : Bool) → (b && false) ≡ false
none_right true = refl
none_right false = refl

lines_cons : (X Y : List ℕ) (r : Rect) (rs : List Rect) → On X Y r → Lines X Y rs → Lines X Y (r ∷ rs)
lines_cons X Y r rs h rest = record { columns = columns; rows = rows }
  where
    columns : (j : ℕ) → Only X (λ i. covers (r ∷ rs) i j)
    columns j zero u = ap₂ (λ p q. (p && (leb r.top j && ltb j r.below)) || q) (stretch-start r.left r.right (apart X r.left 0 h.0 u)) (rest.columns j 0 u)
    columns j (suc i) u =
        ap₂ (λ p q. (p && (leb r.top j && ltb j r.below)) || q) (stretch-step r.left r.right i (apart X r.left (suc i) h.0 u) (apart X r.right (suc i) h.1 u)) (rest.columns j (suc i) u)

    rows : (i : ℕ) → Only Y (λ j. covers (r ∷ rs) i j)
    rows i zero u =
        ap₂ (λ p q. ((leb r.left i && ltb i r.right) && p) || q) (stretch-start r.top r.below (apart Y r.top 0 h.2 u)) (rest.rows i 0 u)
        ∙ ap (λ z. z || false) (none_right (leb r.left i && ltb i r.right))
    rows i (suc j) u =
        ap₂ (λ p q. ((leb r.left i && ltb i r.right) && p) || q) (stretch-step r.top r.below j (apart Y r.top (suc j) h.2 u) (apart Y r.below (suc j) h.3 u)) (rest.rows i (suc j) u)

pub lines-list : (X Y : List ℕ) (rs : List Rect) → AllOn X Y rs → Lines X Y rs
lines-list X Y [] h = record { columns = λ j. elim [ zero ↦ λ _. refl | suc i ↦ λ _. refl ]; rows = λ i. elim [ zero ↦ λ _. refl | suc j ↦ λ _. refl ] }
lines-list X Y (r ∷ rs) h = lines_cons X Y r rs h.0 (lines-list X Y rs h.1)

-- and so does what an operation makes of two sets that change there
pub lines-op : (op : Op) (X Y : List ℕ) (A B C : List Rect) → Lines X Y A → Lines X Y B → ((i j : ℕ) → covers C i j ≡ act op (covers A i j) (covers B i j)) → Lines X Y C
lines-op op X Y A B C a b same = record { columns = columns; rows = rows }
  where
    columns : (j : ℕ) → Only X (λ i. covers C i j)
    columns j zero u = same 0 j ∙ (ap₂ (act op) (a.columns j 0 u) (b.columns j 0 u) ∙ act-none op)
    columns j (suc i) u = same (suc i) j ∙ (ap₂ (act op) (a.columns j (suc i) u) (b.columns j (suc i) u) ∙ sym (same i j))

    rows : (i : ℕ) → Only Y (λ j. covers C i j)
    rows i zero u = same i 0 ∙ (ap₂ (act op) (a.rows i 0 u) (b.rows i 0 u) ∙ act-none op)
    rows i (suc j) u = same i (suc j) ∙ (ap₂ (act op) (a.rows i (suc j) u) (b.rows i (suc j) u) ∙ sym (same i j))

-- a set that changes only at some lines changes only at those and others
pub lines_more : (a b c d : ℕ) (X Y : List ℕ) (rs : List Rect) → Lines X Y rs → Lines (a ∷ b ∷ X) (c ∷ d ∷ Y) rs
lines_more a b c d X Y rs l = record { columns = λ j i u. l.columns j i (less a b X i u); rows = λ i j u. l.rows i j (less c d Y j u) }
  where
    less_one : (x : ℕ) (Z : List ℕ) (k : ℕ) → among (x ∷ Z) k ≡ false → among Z k ≡ false
    less_one x Z k u = by (eqb x k) u
      where
        by : (t : Bool) → (t || among Z k) ≡ false → among Z k ≡ false
        by true q = absurd (true≢false q)
        by false q = q

    less : (x y : ℕ) (Z : List ℕ) (k : ℕ) → among (x ∷ y ∷ Z) k ≡ false → among Z k ≡ false
    less x y Z k u = less_one y Z k (less_one x (y ∷ Z) k u)

-- the room for k boxes
pub room-square : (k : ℕ) → (2 * k) * (2 * k + 2) ≡ 2 * room_for k
room-square k =
    let e : 2 * k + 2 ≡ 2 * (k + 1) = omega arith in
    ap (λ (z : ℕ). (2 * k) * z) e ∙ (mul_assoc 2 k (2 * (k + 1)) ∙ ap (λ (z : ℕ). 2 * z) (mul_left_comm k 2 (k + 1)))
