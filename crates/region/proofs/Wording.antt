-- Boxes as pairs of words: how parts of the words are parts of the boxes.
use Rattle.std.proofs.Common.{◌≡◌, ℕ, zero, suc, ◌+◌, ◌-◌, ◌*◌, ◌/◌, ◌%◌, ◌<◌, ◌≤◌, Bool, true, false, cond, ◌&&◌, ◌||◌, List, [], ◌∷◌, ◌++◌, length, get_or, take, drop, set, sym, refl, ap, ◌∙◌, subst, ap₂, arith}
use Rattle.std.proofs.lemmas.List.{length-take-le, length-drop, drop_all, take_all, append-nil}
use borrow.Rule.Slice.PartMut.{put_mid, post_of}
use Rattle.geometry.specs.declared.Rect.{Rect}
use Rattle.geometry.specs.Boxes.{blank, in_rect}
use Rattle.std.proofs.lemmas.Bool.{lt-ltb}
use Rattle.region.specs.declared.Op.{Op}
use Rattle.region.specs.Flat.{covers, Canonical, Proper}
use Rattle.region.specs.Reader.{Combined}
use Rattle.region.specs.Words.{unpacked, rects, Makes, Boxed, one}
use Rattle.region.proofs.Theorems.{box-is}

twice : (n : ℕ) → 2 * suc n ≡ suc (suc (2 * n))
twice n = omega arith

pub length-rects : (ws : List ℕ) → length (rects ws) ≡ length ws / 2
length-rects [] = refl
length-rects (w ∷ []) = refl
length-rects (w ∷ v ∷ ws) = let e = length-rects ws in omega arith

pub rects-take : (n : ℕ) (ws : List ℕ) → rects (take (2 * n) ws) ≡ take n (rects ws)
rects-take zero ws = refl
rects-take (suc n) [] = rw (twice n)
rects-take (suc n) (w ∷ []) = rw (twice n)
rects-take (suc n) (w ∷ v ∷ ws) = rw (twice n) (ap (λ l. unpacked w v ∷ l) (rects-take n ws))

pub rects-drop : (n : ℕ) (ws : List ℕ) → rects (drop (2 * n) ws) ≡ drop n (rects ws)
rects-drop zero ws = refl
rects-drop (suc n) [] = rw (twice n)
rects-drop (suc n) (w ∷ []) = rw (twice n)
rects-drop (suc n) (w ∷ v ∷ ws) = rw (twice n) (rects-drop n ws)

-- &ws[2 * p..2 * e]
pub rects-part : (p e : ℕ) (ws : List ℕ) → rects (take (2 * e - 2 * p) (drop (2 * p) ws)) ≡ take (e - p) (drop p (rects ws))
rects-part p e ws =
    let q : 2 * e - 2 * p ≡ 2 * (e - p) = omega arith in
    ap (λ (z : ℕ). rects (take z (drop (2 * p) ws))) q ∙ (rects-take (e - p) (drop (2 * p) ws) ∙ ap (take (e - p)) (rects-drop p ws))

-- &ws[2 * p..]
pub rects-rest : (p : ℕ) (ws : List ℕ) → rects (take (length ws - 2 * p) (drop (2 * p) ws)) ≡ drop p (rects ws)
rects-rest p ws = ap rects (take_all (length ws - 2 * p) (drop (2 * p) ws) (omega (arith, length-drop (2 * p) ws))) ∙ rects-drop p ws

pub rects-append : (n : ℕ) (ws vs : List ℕ) → length ws ≡ 2 * n → rects (ws ++ vs) ≡ rects ws ++ rects vs
rects-append n [] vs h = refl
rects-append n (w ∷ []) vs h = absurd (omega arith)
rects-append zero (w ∷ v ∷ ws) vs h = absurd (omega arith)
rects-append (suc n) (w ∷ v ∷ ws) vs h = ap (λ l. unpacked w v ∷ l) (rects-append n ws vs (omega arith))

pub rects-at : (ws : List ℕ) (i : ℕ) → i < length ws / 2 → unpacked (get_or ws (2 * i) 0) (get_or ws (2 * i + 1) 0) ≡ get_or (rects ws) i blank
rects-at [] i h = absurd (omega arith)
rects-at (w ∷ []) i h = absurd (omega arith)
rects-at (w ∷ v ∷ ws) zero h = refl
rects-at (w ∷ v ∷ ws) (suc i) h = let e : 2 * suc i + 1 ≡ suc (suc (2 * i + 1)) = omega arith in rw (e, twice i) (rects-at ws i (omega arith))

pub rects-set : (ws : List ℕ) (i w v : ℕ) → rects (set (set ws (2 * i) w) (2 * i + 1) v) ≡ set (rects ws) i (unpacked w v)
rects-set [] i w v = refl
rects-set (x ∷ []) zero w v = refl
rects-set (x ∷ []) (suc i) w v = let e : 2 * suc i + 1 ≡ suc (suc (2 * i + 1)) = omega arith in rw (e, twice i)
rects-set (x ∷ y ∷ ws) zero w v = refl
rects-set (x ∷ y ∷ ws) (suc i) w v =
    let e : 2 * suc i + 1 ≡ suc (suc (2 * i + 1)) = omega arith in rw (e, twice i) (ap (λ l. unpacked x y ∷ l) (rects-set ws i w v))

-- what was packed is read
pub unpacked-packed : (l t r b : ℕ) → l < 65536 → r < 65536 → unpacked (l + t * 65536) (r + b * 65536) ≡ record { left = l; top = t; right = r; below = b }
unpacked-packed l t r b h k =
    let p : (l + t * 65536) % 65536 ≡ l = omega arith in
    let q : (l + t * 65536) / 65536 ≡ t = omega arith in
    let u : (r + b * 65536) % 65536 ≡ r = omega arith in
    let v : (r + b * 65536) / 65536 ≡ b = omega arith in
    rw (p, q, u, v)

-- how many boxes a part has
pub length_part : (p e : ℕ) (ws : List ℕ) → p ≤ e → 2 * e ≤ length ws → length (rects (take (2 * e - 2 * p) (drop (2 * p) ws))) ≡ e - p
length_part p e ws h k =
    let f = length-rects (take (2 * e - 2 * p) (drop (2 * p) ws)) in
    let g : length (take (2 * e - 2 * p) (drop (2 * p) ws)) ≡ 2 * e - 2 * p = length-take-le (2 * e - 2 * p) (drop (2 * p) ws) (omega (arith, length-drop (2 * p) ws)) in
    omega arith

-- after a write to &mut xs[2 * n..2 * e]
pub rects-mid : (n e : ℕ) (xs ys : List ℕ) → n ≤ e → 2 * n ≤ length xs → length ys ≡ 2 * e - 2 * n →
    rects (put_mid (2 * n) (2 * e - 2 * n) xs ys) ≡ take n (rects xs) ++ (rects ys ++ rects (post_of (2 * n) (2 * e - 2 * n) xs))
rects-mid n e xs ys h k l =
    rects-append n (take (2 * n) xs) (ys ++ post_of (2 * n) (2 * e - 2 * n) xs) (length-take-le (2 * n) xs k)
    ∙ ap₂ (λ u v. u ++ v) (rects-take n xs) (rects-append (e - n) ys (post_of (2 * n) (2 * e - 2 * n) xs) (omega arith))

-- after a write to &mut xs[2 * n..]
pub rects-tail : (n : ℕ) (xs ys : List ℕ) → 2 * n ≤ length xs → rects (put_mid (2 * n) (length xs - 2 * n) xs ys) ≡ take n (rects xs) ++ (rects ys ++ [])
rects-tail n xs ys k =
    rects-append n (take (2 * n) xs) (ys ++ post_of (2 * n) (length xs - 2 * n) xs) (length-take-le (2 * n) xs k)
    ∙ ap₂ (λ u v. u ++ v) (rects-take n xs) (ap rects (ap (λ z. ys ++ z) none ∙ append-nil ys) ∙ sym (append-nil (rects ys)))
  where
    none : post_of (2 * n) (length xs - 2 * n) xs ≡ []
    none = drop_all (length xs - 2 * n) (drop (2 * n) xs) (omega (arith, length-drop (2 * n) xs))

pub makes : (op : Op) (A B : List Rect) (out : List ℕ) (n : ℕ) → Combined op A B (rects out) n → Makes op A B out n
makes op A B out n k =
    record {
      within = omega (arith, k.within, length-rects out);
      canonical = subst Canonical (sym (rects-take n out)) k.canonical;
      dots = λ i j. ap (λ (z : List Rect). covers z i j) (rects-take n out) ∙ k.dots i j;
    }

-- one box at the start of the words
pub covers_one : (r : Rect) (i j : ℕ) → covers (r ∷ []) i j ≡ in_rect r i j
covers_one r i j = by (in_rect r i j)
  where
    by : (b : Bool) → (b || false) ≡ b
    by true = refl
    by false = refl

pub one-is : (r : Rect) → Proper r → one r ≡ r ∷ []
one-is r p = ap₂ (λ u v. cond (u && v) (r ∷ []) []) (lt-ltb r.left r.right p.wide) (lt-ltb r.top r.below p.high)

pub boxed-one : (r : Rect) (before after : List ℕ) → Proper r → 2 ≤ length before → r.left < 65536 → r.right < 65536 → after ≡ set (set before 0 (r.left + r.top * 65536)) 1 (r.right + r.below * 65536) → Boxed r before after 1
boxed-one r [] after p h l m e = absurd (omega arith)
boxed-one r (x ∷ []) after p h l m e = absurd (omega arith)
boxed-one r (x ∷ y ∷ ws) after p h l m e =
    record {
      within = omega (arith, ap length e);
      are = are ∙ sym (one-is r p);
      canonical = subst Canonical (sym are) (box-is r p);
      dots = λ i j. ap (λ (z : List Rect). covers z i j) are ∙ covers_one r i j;
      past = ap (drop 2) e;
    }
  where
    are : rects (take 2 after) ≡ r ∷ []
    are = ap (λ (z : List ℕ). rects (take 2 z)) e ∙ ap (λ (z : Rect). z ∷ []) (unpacked-packed r.left r.top r.right r.below l m)
