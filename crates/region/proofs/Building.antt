-- The sweep over the bands of two regions, from above.
use Rattle.std.proofs.Common.{◌≡◌, ℕ, suc, ◌+◌, ◌-◌, ◌<◌, ◌≤◌, min, Bool, true, false, cond, ◌&&◌, eqb, ltb, leb, ◌≢◌, ◌⊎◌, List, [], ◌∷◌, ◌++◌, length, take, drop, sym, refl, ap, ◌∙◌, subst, ap₂, subst₂, inl, inr, arith}
use Rattle.std.proofs.lemmas.Bool.{eq-eqb, ne_eqb, cases_lt, cases_eq, lt-ltb, le-ltb, le-leb}
use Rattle.std.proofs.lemmas.List.{append-nil, take_at, drop_at, take-take, take-append-le, length-append, length-take-le}
use Rattle.std.proofs.lemmas.Slice.{between_is}
use Rattle.std.proofs.lemmas.List.{length-map}
use Rattle.geometry.specs.declared.Rect.{Rect}
use Rattle.region.specs.declared.Op.{Op}
use Rattle.region.specs.Edges.{inside, Between, Row}
use Rattle.region.specs.Boxes.{edges, Rows, across, none, act}
use Rattle.region.specs.Bands.{same_edges, Change, row_at, last_row, Bands, Region, has}
use Rattle.region.specs.Flat.{covers, boxes, flat, Canonical}
use Rattle.region.specs.Reader.{Rest, Slab, stretched, stretched_one, Combined}
use Rattle.region.proofs.Pairs.{across-inside, odd-edges}
use Rattle.region.proofs.Banding.{at-past, at_before, lower-bands, wider-bands, unique-region, same_true, same_false}
use Rattle.region.proofs.Flattening.{edges-boxes, boxes-edges, bands-spread, flat-covers, flat-push}

pub row-past : (low : ℕ) (r : List ℕ) (cs : List Change) (high j : ℕ) → Bands low r cs high → high ≤ suc j → row_at r cs j ≡ last_row r cs
row-past low r [] high j h l = refl
row-past low r (c ∷ cs) high j h l =
    at-past r c cs j (omega (arith, bands-spread (suc c.at) c.row cs high h.3)) ∙ row-past (suc c.at) c.row cs high j h.3 l

pub bands-push : (low : ℕ) (r : List ℕ) (cs : List Change) (high : ℕ) (c : Change) → Bands low r cs high → high ≤ c.at → c.row ≢ last_row r cs → Row 4096 c.row → Bands low r (cs ++ c ∷ []) (suc c.at)
bands-push low r [] high c h l n k = (omega arith, n, k, omega arith)
bands-push low r (d ∷ cs) high c h l n k = (h.0, h.1, h.2, bands-push (suc d.at) d.row cs high c h.3 l n k)

pub last-push : (r : List ℕ) (cs : List Change) (c : Change) → last_row r (cs ++ c ∷ []) ≡ c.row
last-push r [] c = refl
last-push r (d ∷ cs) c = last-push d.row cs c

pub row-push : (r : List ℕ) (cs : List Change) (c : Change) (j : ℕ) → j < c.at → row_at r (cs ++ c ∷ []) j ≡ row_at r cs j
row-push r [] c j l = at_before r c [] j l
row-push r (d ∷ cs) c j l = ap (λ z. cond (leb d.at j) z r) (row-push d.row cs c j l)

-- what canonical boxes cover, by their bands
pub covers-has : (rs : List Rect) (k : Canonical rs) (i j : ℕ) → covers rs i j ≡ has k.bands i j
covers-has rs k i j =
    ap (λ z. covers z i j) k.are ∙ (flat-covers 0 0 [] k.bands 4097 4096 i j k.good.0 (omega arith, refl) (omega arith) (omega arith) ∙ go (cases_lt j 4096))
  where
    all : (b : Bool) → (b && true) ≡ b
    all true = refl
    all false = refl

    nothing : (b : Bool) → (b && false) ≡ false
    nothing true = refl
    nothing false = refl

    go : (j < 4096) ⊎ (4096 ≤ j) → (has k.bands i j && (leb 0 j && ltb j 4096)) ≡ has k.bands i j
    go (inl l) = ap₂ (λ p q. has k.bands i j && (p && q)) (le-leb 0 j (omega arith)) (lt-ltb j 4096 l) ∙ all (has k.bands i j)
    go (inr l) =
        ap₂ (λ p q. has k.bands i j && (p && q)) (le-leb 0 j (omega arith)) (le-ltb j 4096 l)
        ∙ (nothing (has k.bands i j) ∙ sym (ap (λ z. inside z i) (row-past 0 [] k.bands 4097 j k.good.0 (omega arith) ∙ k.good.1)))

-- two rows of boxes in canonical form that cover the same dots are the same
pub unique-boxes : (rs ss : List Rect) → Canonical rs → Canonical ss → ((i j : ℕ) → covers rs i j ≡ covers ss i j) → rs ≡ ss
unique-boxes rs ss k l same =
    k.are
    ∙ (ap (λ z. flat 0 [] z 4096) (unique-region 4096 4096 k.bands l.bands k.good l.good (λ i j. sym (covers-has rs k i j) ∙ (same i j ∙ covers-has ss l i j)))
    ∙ sym l.are)

-- the reader at the start
pub rest-start : (a : List Rect) → Canonical a → Rest a 0 0
rest-start a k = go k.bands k.good k.are (covers-has a k)
  where
    go : (cs : List Change) → Region 4096 cs → a ≡ flat 0 [] cs 4096 → ((i j : ℕ) → covers a i j ≡ has cs i j) → Rest a 0 0
    go [] g e d = record { t = 0; row = []; bands = []; left = e; began = omega arith; good = (omega arith, refl); next = omega arith; ends = refl; dots = λ i j _. d i j; within = omega arith }
    go (c ∷ cs) g e d = by (cases_lt 0 c.at)
      where
        by : (0 < c.at) ⊎ (c.at ≤ 0) → Rest a 0 0
        by (inl l) =
            record { t = 0; row = []; bands = c ∷ cs; left = e; began = omega arith; good = (omega arith, refl); next = (l, g.0.1, g.0.2, g.0.3); ends = g.1; dots = λ i j _. d i j; within = omega arith }
        by (inr l) =
            record {
              t = c.at;
              row = c.row;
              bands = cs;
              left = e;
              began = l;
              good = g.0.2;
              next = lower-bands (suc c.at) 1 c.row cs 4097 g.0.3 (omega arith);
              ends = g.1;
              dots = λ i j _. d i j ∙ ap (λ z. inside z i) (at-past [] c cs j (omega arith));
              within = omega arith;
            }

-- the reader goes on to the row `to`
pub rest-on : (a : List Rect) (p y pe ya to p' : ℕ) → Slab a p y pe ya → y < to → to ≤ ya → to < none → to ≤ 4096 → p' ≡ cond (eqb ya to) pe p → Rest a p' to
rest-on a p y pe ya to p' s l m n o e = go (cases_eq ya to)
  where
    go : (ya ≡ to) ⊎ (ya ≡ to → ⊥) → Rest a p' to
    go (inl q) = subst₂ (λ u v. Rest a u v) (sym (e ∙ ap (λ z. cond z pe p) (eq-eqb ya to q))) q (s.goes (omega arith))
    go (inr q) = subst (λ u. Rest a u to) (sym (e ∙ ap (λ z. cond z pe p) (ne_eqb ya to q))) (s.stays to (omega arith) (omega arith) o)

-- what is written so far
pub record Built (f : Bool → Bool → Bool) (a b out : List Rect) (p q y m n : ℕ) : Type 0 where
  pub bands : List Change
  pub t : ℕ
  pub row : List ℕ
  pub rest-a : Rest a p y
  pub rest-b : Rest b q y
  pub good : Bands 0 [] bands y
  pub row_is : last_row [] bands ≡ row
  pub row-good : Row 4096 row
  pub ready : (e : ℕ) → flat 0 [] bands e ≡ take m out ++ boxes t e row
  pub here : take n out ≡ take m out ++ boxes t y row
  pub order : m ≤ n
  pub within : n ≤ length out
  pub same : (i j : ℕ) → j < y → inside (row_at [] bands j) i ≡ f (covers a i j) (covers b i j)
  pub low : y ≤ 4096

pub built-start : (f : Bool → Bool → Bool) (a b out : List Rect) → Canonical a → Canonical b → Built f a b out 0 0 0 0 0
built-start f a b out k l =
    record {
      bands = [];
      t = 0;
      row = [];
      rest-a = rest-start a k;
      rest-b = rest-start b l;
      good = omega arith;
      row_is = refl;
      row-good = (omega arith, refl);
      ready = λ e. refl;
      here = refl;
      order = omega arith;
      within = omega arith;
      same = λ i j h. absurd (omega arith);
      low = omega arith;
    }

-- the row that was made for the rows from y up to `to`
pub record Made (f : Bool → Bool → Bool) (a b R : List Rect) (y to : ℕ) : Type 0 where
  pub rows : Rows y to R
  pub rises : Between 0 (edges R) 4097
  pub dots : (i j : ℕ) → y ≤ j → j < to → across R i ≡ f (covers a i j) (covers b i j)

module _ (f : Bool → Bool → Bool) (a b out out' R : List Rect) (p q y m n p' q' to : ℕ) (s : Built f a b out p q y m n) (d : Made f a b R y to) (ra : Rest a p' to) (rb : Rest b q' to) (l : y < to) (o : to ≤ 4096) where
  pub built-same : s.row ≡ edges R → take m out' ≡ take m out → take n out' ≡ take m out ++ boxes s.t to s.row → n ≤ length out' → Built f a b out' p' q' to m n
  built-same e u v w =
      record {
        bands = s.bands;
        t = s.t;
        row = s.row;
        rest-a = ra;
        rest-b = rb;
        good = wider-bands 0 [] s.bands y to s.good (omega arith);
        row_is = s.row_is;
        row-good = s.row-good;
        ready = λ x. s.ready x ∙ ap (λ z. z ++ boxes s.t x s.row) (sym u);
        here = v ∙ ap (λ z. z ++ boxes s.t to s.row) (sym u);
        order = s.order;
        within = w;
        same = λ i j h. by i j h (cases_lt j y);
        low = o;
      }
    where
      by : (i j : ℕ) → j < to → (j < y) ⊎ (y ≤ j) → inside (row_at [] s.bands j) i ≡ f (covers a i j) (covers b i j)
      by i j h (inl x) = s.same i j x
      by i j h (inr x) =
          ap (λ z. inside z i) (row-past 0 [] s.bands y j s.good (omega arith) ∙ (s.row_is ∙ e)) ∙ (sym (across-inside 0 R 4097 i d.rises) ∙ d.dots i j x h)

  pub built-new : (k : ℕ) → (s.row ≡ edges R → ⊥) → take n out' ≡ take n out → take (n + k) out' ≡ take n out ++ R → n + k ≤ length out' → Built f a b out' p' q' to n (n + k)
  built-new k e u v w =
      record {
        bands = s.bands ++ c ∷ [];
        t = y;
        row = edges R;
        rest-a = ra;
        rest-b = rb;
        good = wider-bands 0 [] (s.bands ++ c ∷ []) (suc y) to pushed (omega arith);
        row_is = last-push [] s.bands c;
        row-good = (d.rises, odd-edges R);
        ready = λ x. flat-push 0 [] s.bands c x ∙ ap (λ z. z ++ boxes y x (edges R)) (s.ready y ∙ (sym s.here ∙ sym u));
        here = v ∙ ap₂ (λ z w. z ++ w) (sym u) (sym (boxes-edges y to R d.rows));
        order = omega arith;
        within = w;
        same = λ i j h. by i j h (cases_lt j y);
        low = o;
      }
    where
      c : Change
      c = record { at = y; row = edges R }

      pushed : Bands 0 [] (s.bands ++ c ∷ []) (suc y)
      pushed = bands-push 0 [] s.bands y c s.good (omega arith) (λ z. e (sym (z ∙ s.row_is))) (d.rises, odd-edges R)

      by : (i j : ℕ) → j < to → (j < y) ⊎ (y ≤ j) → inside (row_at [] (s.bands ++ c ∷ []) j) i ≡ f (covers a i j) (covers b i j)
      by i j h (inl x) = ap (λ z. inside z i) (row-push [] s.bands c j x) ∙ s.same i j x
      by i j h (inr x) =
          ap (λ z. inside z i) (row-past 0 [] (s.bands ++ c ∷ []) (suc y) j pushed (omega arith) ∙ last-push [] s.bands c) ∙ (sym (across-inside 0 R 4097 i d.rises) ∙ d.dots i j x h)

pub built-done : (op : Op) (a b out : List Rect) (p q y m n pe qe : ℕ) → act op false false ≡ false → Built (act op) a b out p q y m n → Slab a p y pe none → Slab b q y qe none → Combined op a b out n
built-done op a b out p q y m n pe qe ff s sa sb = record { within = s.within; canonical = ends s.row refl; dots = all }
  where
    flats : take n out ≡ flat 0 [] s.bands y
    flats = s.here ∙ sym (s.ready y)

    keep : (z : Bool) → (z && true) ≡ z
    keep true = refl
    keep false = refl

    lose : (z : Bool) → (z && false) ≡ false
    lose true = refl
    lose false = refl

    all : (i j : ℕ) → covers (take n out) i j ≡ act op (covers a i j) (covers b i j)
    all i j =
        ap (λ z. covers z i j) flats ∙ (flat-covers 0 0 [] s.bands y y i j s.good (omega arith, refl) (omega arith) (omega arith) ∙ by (cases_lt j y))
      where
        by : (j < y) ⊎ (y ≤ j) → (inside (row_at [] s.bands j) i && (leb 0 j && ltb j y)) ≡ act op (covers a i j) (covers b i j)
        by (inl l) =
            ap₂ (λ u v. inside (row_at [] s.bands j) i && (u && v)) (le-leb 0 j (omega arith)) (lt-ltb j y l) ∙ (keep (inside (row_at [] s.bands j) i) ∙ s.same i j l)
        by (inr l) =
            ap₂ (λ u v. inside (row_at [] s.bands j) i && (u && v)) (le-leb 0 j (omega arith)) (le-ltb j y l)
            ∙ (lose (inside (row_at [] s.bands j) i) ∙ sym (ap₂ (act op) (sa.over refl i j l) (sb.over refl i j l) ∙ ff))

    ends : (r : List ℕ) → s.row ≡ r → Canonical (take n out)
    ends [] e =
        record {
          bands = s.bands;
          good = (wider-bands 0 [] s.bands y 4097 s.good (omega (arith, s.low)), s.row_is ∙ e);
          are = s.here ∙ (ap (λ z. take m out ++ boxes s.t y z) e ∙ sym (s.ready 4096 ∙ ap (λ z. take m out ++ boxes s.t 4096 z) e));
        }
    ends (x ∷ r) e =
        record {
          bands = s.bands ++ c ∷ [];
          good = (wider-bands 0 [] (s.bands ++ c ∷ []) (suc y) 4097 pushed (omega (arith, s.low)), last-push [] s.bands c);
          are = flats ∙ (sym (append-nil (flat 0 [] s.bands y)) ∙ sym (flat-push 0 [] s.bands c 4096));
        }
      where
        c : Change
        c = record { at = y; row = [] }

        other : [] ≢ last_row [] s.bands
        other z = let w : [] ≡ x ∷ r = z ∙ (s.row_is ∙ e) in let o : ◌≡◌ {A = ℕ} 0 1 = cc in omega arith

        pushed : Bands 0 [] (s.bands ++ c ∷ []) (suc y)
        pushed = bands-push 0 [] s.bands y c s.good (omega arith) other (omega arith, refl)

pub take_past : {A : Type 0} (xs ys : List A) (n k : ℕ) → length xs ≡ n → take (n + k) (xs ++ ys) ≡ xs ++ take k ys
take_past {A = A} xs ys n k e = subst (λ (z : ℕ). take (z + k) (xs ++ ys) ≡ xs ++ take k ys) e (go xs)
  where
    go : (zs : List A) → take (length zs + k) (zs ++ ys) ≡ zs ++ take k ys
    go [] = let e : 0 + k ≡ k = omega arith in ap (λ (z : ℕ). take z ys) e
    go (z ∷ zs) = let e : suc (length zs) + k ≡ suc (length zs + k) = omega arith in ap (λ (w : ℕ). take w (z ∷ (zs ++ ys))) e ∙ ap (λ w. z ∷ w) (go zs)

pub stretched-boxes : (t b e : ℕ) (es : List ℕ) → stretched e (boxes t b es) ≡ boxes t e es
stretched-boxes t b e [] = refl
stretched-boxes t b e (l ∷ []) = refl
stretched-boxes t b e (l ∷ r ∷ es) = ap (λ z. record { left = l; top = t; right = r; below = e } ∷ z) (stretched-boxes t b e es)

-- the boxes after a row was written at n, and then joined with the band above it or not
module _ (f : Bool → Bool → Bool) (a b out ys post : List Rect) (p q y m n p' q' to k : ℕ) (s : Built f a b out p q y m n) (d : Made f a b (take k ys) y to) (ra : Rest a p' to) (rb : Rest b q' to) (l : y < to) (o : to ≤ 4096) (long : k ≤ length ys) where
  abbrev wrote : List Rect
  wrote = take n out ++ (ys ++ post)

  front-size : length (take n out) ≡ n
  front-size = length-take-le n out s.within

  front : take n wrote ≡ take n out
  front = take_at (take n out) (ys ++ post) n front-size

  fresh : take k (drop n wrote) ≡ take k ys
  fresh = ap (take k) (drop_at (take n out) (ys ++ post) n front-size) ∙ take-append-le k ys post long

  band-size : n ≡ m + length (boxes s.t y s.row)
  band-size =
      sym front-size
      ∙ (ap length s.here ∙ (length-append (take m out) (boxes s.t y s.row) ∙ ap (λ z. z + length (boxes s.t y s.row)) (length-take-le m out (omega (arith, s.order, s.within)))))

  old : take (n - m) (drop m wrote) ≡ boxes s.t y s.row
  old =
      between_is wrote m n
      ∙ (ap (drop m) (front ∙ s.here) ∙ drop_at (take m out) (boxes s.t y s.row) m (length-take-le m out (omega (arith, s.order, s.within))))

  edges-old : edges (take (n - m) (drop m wrote)) ≡ s.row
  edges-old = ap edges old ∙ edges-boxes s.t y s.row s.row-good.1

  edges-new : edges (take (n + k - n) (drop n wrote)) ≡ edges (take k ys)
  edges-new = let e : n + k - n ≡ k = omega arith in ap (λ (z : ℕ). edges (take z (drop n wrote))) e ∙ ap edges fresh

  pub added : same_edges (edges (take (n - m) (drop m wrote))) (edges (take (n + k - n) (drop n wrote))) ≡ false → Built f a b wrote p' q' to n (n + k)
  added e =
      built-new f a b out wrote (take k ys) p q y m n p' q' to s d ra rb l o k
      (λ z. same_false _ _ e (edges-old ∙ (z ∙ sym edges-new)))
      front
      (take_past (take n out) (ys ++ post) n k front-size ∙ ap (λ z. take n out ++ z) (take-append-le k ys post long))
      (omega (arith, length-append (take n out) (ys ++ post), length-append ys post, front-size, long))

  pub merged : (zs post₂ : List Rect) → same_edges (edges (take (n - m) (drop m wrote))) (edges (take (n + k - n) (drop n wrote))) ≡ true → zs ≡ stretched to (take (n - m) (drop m wrote)) →
      Built f a b (take m wrote ++ (zs ++ post₂)) p' q' to m n
  merged zs post₂ e z =
      built-same f a b out (take m wrote ++ (zs ++ post₂)) (take k ys) p q y m n p' q' to s d ra rb l o
      (sym edges-old ∙ (same_true _ _ e ∙ edges-new))
      (take_at (take m wrote) (zs ++ post₂) m top-size ∙ top)
      whole
      (omega (arith, length-append (take m wrote) (zs ++ post₂), length-append zs post₂, top-size, size, band-size))
    where
      top : take m wrote ≡ take m out
      top = take-append-le m (take n out) (ys ++ post) (omega (arith, front-size, s.order)) ∙ take-take m n out s.order

      top-size : length (take m wrote) ≡ m
      top-size = ap length top ∙ length-take-le m out (omega (arith, s.order, s.within))

      is : zs ≡ boxes s.t to s.row
      is = z ∙ (ap (stretched to) old ∙ stretched-boxes s.t y to s.row)

      size : length zs ≡ length (boxes s.t y s.row)
      size = ap length z ∙ (length-map (take (n - m) (drop m wrote)) (stretched_one to) ∙ ap length old)

      whole : take n (take m wrote ++ (zs ++ post₂)) ≡ take m out ++ boxes s.t to s.row
      whole =
          let w : n ≡ m + length zs = omega (arith, size, band-size) in
          ap (λ (v : ℕ). take v (take m wrote ++ (zs ++ post₂))) w
          ∙ (take_past (take m wrote) (zs ++ post₂) m (length zs) top-size ∙ ap₂ (λ u v. u ++ v) top (take_at zs post₂ (length zs) refl ∙ is))

pub to_low : (ya yb to : ℕ) → to ≡ min ya yb → (ya < none → ya ≤ 4096) → (yb < none → yb ≤ 4096) → to < none → to ≤ 4096
to_low ya yb to e p q l = go (cases_lt ya yb)
  where
    go : (ya < yb) ⊎ (yb ≤ ya) → to ≤ 4096
    go (inl h) = let m : ya ≤ 4096 = p (omega arith) in omega arith
    go (inr h) = let m : yb ≤ 4096 = q (omega arith) in omega arith
