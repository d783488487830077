-- Walks over the boxes of some words.
use Rattle.std.proofs.Common.{◌≡◌, ℕ, zero, suc, ◌+◌, ◌-◌, ◌*◌, ◌<◌, ◌≤◌, Bool, true, false, cond, ◌&&◌, ◌||◌, ◌==◌, List, [], ◌∷◌, length, get_or, map, set, sym, refl, ap, ◌∙◌, subst, add-one, arith}
use Rattle.std.specs.List.{AllZip, AllWithin, list_any, list_all, prefix_len, sum_by, zip}
use Rattle.std.specs.Iterator.{YieldsFirst}
use Rattle.std.specs.Iterator.Runs.{YieldsInOrder}
use Rattle.std.proofs.iter.runs.Sources.{from_front, as_is}
use Rattle.std.proofs.lemmas.Iterator.{YieldsList}
use Rattle.std.proofs.lemmas.Iterator.Consumers.{YieldsList-from_first}
use Rattle.std.proofs.lemmas.Bool.{or_right}
use Rattle.std.proofs.lemmas.List.Recursion.{is_sum_by}
use Rattle.geometry.specs.declared.Rect.{Rect}
use Rattle.geometry.specs.Boxes.{in_rect, blank, Empty}
use Rattle.region.specs.declared.Boxes.{Boxes}
use Rattle.region.specs.Boxes.{edges}
use Rattle.region.specs.Bands.{same_edges}
use Rattle.region.specs.Flat.{covers}
use Rattle.region.specs.Reader.{leading}
use Rattle.region.specs.Dots.{area, NoDots}
use Rattle.region.specs.Words.{boxes_left}

-- a walk over some words gives their boxes
pub boxes-runs : YieldsInOrder (YieldsFirst boxes_left) boxes_left
boxes-runs p s = as_is p (boxes_left p.from) (from_front (YieldsFirst boxes_left) (λ x. x) boxes_left (λ s t h. ap length h.0) (λ s x t h. h) p s)

pub boxes-yield : (b : Boxes) (rs : List Rect) → boxes_left b ≡ rs → YieldsList (YieldsFirst boxes_left) (λ x. x) b rs
boxes-yield b rs e = YieldsList-from_first (λ x. x) boxes_left rs e

-- what the specification says of the boxes, in the words of a chain
pub covers-any : (rs : List Rect) (i j : ℕ) → covers rs i j ≡ list_any (λ r. in_rect r i j) rs
covers-any [] i j = refl
covers-any (r ∷ rs) i j = ap (λ b. in_rect r i j || b) (covers-any rs i j)

pub leading-prefix : (t : ℕ) (rs : List Rect) → leading t rs ≡ prefix_len (λ r. r.top == t) rs
leading-prefix t [] = refl
leading-prefix t (r ∷ rs) = let e = leading-prefix t rs in ap (λ (n : ℕ). cond (r.top == t) n 0) (omega arith)

pub leading-short : (t : ℕ) (xs : List Rect) → leading t xs ≤ length xs
leading-short t [] = omega arith
leading-short t (x ∷ xs) = by (x.top == t) (leading-short t xs)
  where
    by : (b : Bool) → leading t xs ≤ length xs → cond b (suc (leading t xs)) 0 ≤ suc (length xs)
    by true k = omega arith
    by false k = omega arith

abbrev pub dots_one : Rect → ℕ
dots_one r = (r.right - r.left) * (r.below - r.top)

pub area-sum : (rs : List Rect) → area rs ≡ sum_by dots_one rs
area-sum rs = is_sum_by area dots_one refl (λ r rs. refl) rs

abbrev pub same_one : Rect × Rect → Bool
same_one p = p.0.left == p.1.left && p.0.right == p.1.right

pub same-zip : (u v : List Rect) → length u ≡ length v → same_edges (edges u) (edges v) ≡ list_all same_one (zip u v)
same-zip [] [] h = refl
same-zip [] (g ∷ v) h = absurd (omega arith)
same-zip (f ∷ u) [] h = absurd (omega arith)
same-zip (f ∷ u) (g ∷ v) h = both (f.left == g.left) (f.right == g.right) ∙ ap (λ b. same_one (f, g) && b) (same-zip u v (omega arith))
  where
    both : (p q : Bool) → (p && (q && same_edges (edges u) (edges v))) ≡ ((p && q) && same_edges (edges u) (edges v))
    both true q = refl
    both false q = refl

pub same-long : (u v : List Rect) → (length u ≡ length v → ⊥) → same_edges (edges u) (edges v) ≡ false
same-long [] [] h = absurd (h refl)
same-long [] (g ∷ v) h = refl
same-long (f ∷ u) [] h = refl
same-long (f ∷ u) (g ∷ v) h = ap (λ b. f.left == g.left && (f.right == g.right && b)) (same-long u v (λ e. h (omega arith))) ∙ none (f.left == g.left) (f.right == g.right)
  where
    none : (p q : Bool) → (p && (q && false)) ≡ false
    none true true = refl
    none true false = refl
    none false q = refl

-- whether no box has a dot
pub none-covers : (rs : List Rect) → AllWithin (Empty true) rs 0 (length rs) → NoDots true rs
none-covers [] h i j = refl
none-covers (r ∷ rs) h i j = ap (λ b. b || covers rs i j) (h 0 r (omega arith) (omega arith) i j) ∙ none-covers rs (λ k d l m. h (suc k) d (omega arith) (omega arith)) i j

pub some-covers : (rs : List Rect) (k : ℕ) → k < length rs → Empty false (get_or rs k blank) → NoDots false rs
some-covers [] k l h = absurd (omega arith)
some-covers (r ∷ rs) zero l h = (r.left, r.top, ap (λ b. b || covers rs r.left r.top) h)
some-covers (r ∷ rs) (suc k) l h = let q = some-covers rs k (omega arith) h in (q.0, q.1, or_right (in_rect r q.0 q.1) (covers rs q.0 q.1) q.2)

-- the first i items are changed, and the others are as before
module _ {A : Type 0} (R : A → A → Type 0) where
  abbrev pub Changed : ℕ → List A → List A → Type 0
  Changed zero xs ys = ys ≡ xs
  Changed (suc i) [] ys = ys ≡ []
  Changed (suc i) (x ∷ xs) [] = ⊥
  Changed (suc i) (x ∷ xs) (y ∷ ys) = R x y × Changed i xs ys

  changed_more : (i : ℕ) (xs ys : List A) (d q : A) → Changed i xs ys → i < length xs → R (get_or ys i d) q → Changed (suc i) xs (set ys i q)
  changed_more i [] ys d q h l r = absurd (omega arith)
  changed_more zero (x ∷ xs) [] d q h l r = absurd (omega (arith, ap length h))
  changed_more zero (x ∷ xs) (y ∷ ys) d q h l r = (let e : y ≡ x = cc in rw e at r, cc)
  changed_more (suc i) (x ∷ xs) [] d q h l r = absurd h
  changed_more (suc i) (x ∷ xs) (y ∷ ys) d q h l r = (h.0, changed_more i xs ys d q h.1 (omega arith) r)

  pub changed_next : (i : ℕ) (xs ys : List A) (d q : A) → Changed i xs ys → i < length xs → R (get_or ys i d) q → Changed (i + 1) xs (set ys i q)
  changed_next i xs ys d q h l r = subst (λ (n : ℕ). Changed n xs (set ys i q)) (sym (add-one i)) (changed_more i xs ys d q h l r)

  pub changed-all : (i : ℕ) (xs ys : List A) → Changed i xs ys → length xs ≤ i → AllZip R xs ys
  changed-all zero [] [] h l = tt
  changed-all zero [] (y ∷ ys) h l = cc
  changed-all zero (x ∷ xs) ys h l = absurd (omega arith)
  changed-all (suc i) [] [] h l = tt
  changed-all (suc i) [] (y ∷ ys) h l = cc
  changed-all (suc i) (x ∷ xs) [] h l = h
  changed-all (suc i) (x ∷ xs) (y ∷ ys) h l = (h.0, changed-all i xs ys h.1 (omega arith))

pub all_zip-map : {A : Type 0} (R : A → A → Type 0) (f : A → A) → ((x y : A) → R x y → y ≡ f x) → (xs ys : List A) → AllZip R xs ys → ys ≡ map f xs
all_zip-map R f e [] [] h = refl
all_zip-map R f e [] (y ∷ ys) h = absurd h
all_zip-map R f e (x ∷ xs) [] h = absurd h
all_zip-map R f e (x ∷ xs) (y ∷ ys) h = let p = e x y h.0 in let q = all_zip-map R f e xs ys h.1 in cc
