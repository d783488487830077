-- A reader that goes down a region.
use Rattle.std.proofs.Common.{◌≡◌, ℕ, suc, ◌+◌, ◌-◌, ◌<◌, ◌≤◌, false, cond, ◌≢◌, List, [], ◌∷◌, ◌++◌, length, get_or, take, drop, sym, refl, ap, ◌∙◌, subst, ap₂, subst₂, arith}
use Rattle.std.proofs.lemmas.Bool.{eq-eqb, ne_eqb, true≢false}
use Rattle.std.proofs.lemmas.List.{drop_more, drop_all, drop-drop, length-drop, take_at, drop_at, length-append}
use Rattle.geometry.specs.declared.Rect.{Rect}
use Rattle.region.specs.Edges.{inside, odd, Row}
use Rattle.geometry.specs.Boxes.{blank}
use Rattle.region.specs.Boxes.{Rows, across, none}
use Rattle.region.specs.Bands.{Change, row_at, last_row, Bands}
use Rattle.region.specs.Flat.{covers, boxes, flat}
use Rattle.region.specs.Reader.{Rest, Slab, leading}
use Rattle.region.proofs.Pairs.{across-inside}
use Rattle.region.proofs.Banding.{at-past, at_before}
use Rattle.region.proofs.Flattening.{edges-boxes, rows-boxes, bands-spread}

pub nil≢cons : {A : Type 0} (x : A) (xs : List A) → [] ≡ x ∷ xs → ⊥
nil≢cons x xs e = let z : ◌≡◌ {A = ℕ} 0 1 = cc in omega arith

-- the first box of a band that has boxes
pub head-top : (t : ℕ) (l : ℕ) (es : List ℕ) (cs : List Change) (e : ℕ) (f : Rect) (fs : List Rect) → odd (l ∷ es) ≡ false → flat t (l ∷ es) cs e ≡ f ∷ fs → f.top ≡ t
head-top t l [] cs e f fs o h = absurd (true≢false o)
head-top t l (r ∷ es) [] e f fs o h = let q : ◌≡◌ {A = Rect} (record { left = l; top = t; right = r; below = e }) f = cc in sym (ap (λ (z : Rect). z.top) q)
head-top t l (r ∷ es) (c ∷ cs) e f fs o h = let q : ◌≡◌ {A = Rect} (record { left = l; top = t; right = r; below = c.at }) f = cc in sym (ap (λ (z : Rect). z.top) q)

pub head-below : (t : ℕ) (l : ℕ) (es : List ℕ) (c : Change) (cs : List Change) (e : ℕ) (f : Rect) (fs : List Rect) → odd (l ∷ es) ≡ false → flat t (l ∷ es) (c ∷ cs) e ≡ f ∷ fs → f.below ≡ c.at
head-below t l [] c cs e f fs o h = absurd (true≢false o)
head-below t l (r ∷ es) c cs e f fs o h = let q : ◌≡◌ {A = Rect} (record { left = l; top = t; right = r; below = c.at }) f = cc in sym (ap (λ (z : Rect). z.below) q)

head-change : (low : ℕ) (c : Change) (cs : List Change) (high e : ℕ) (f : Rect) (fs : List Rect) → c.row ≢ [] → Row 4096 c.row → flat c.at c.row cs e ≡ f ∷ fs → f.top ≡ c.at
head-change low c cs high e f fs n r h = go c.row n r.1 h
  where
    go : (es : List ℕ) → es ≢ [] → odd es ≡ false → flat c.at es cs e ≡ f ∷ fs → f.top ≡ c.at
    go [] n o h = absurd (n refl)
    go (l ∷ es) n o h = head-top c.at l es cs e f fs o h

-- the band ends where the next begins
pub leading-rows : (t b : ℕ) (rs fs : List Rect) → Rows t b rs → leading t (rs ++ fs) ≡ length rs + leading t fs
leading-rows t b [] fs h = omega arith
leading-rows t b (r ∷ rs) fs h =
    ap (λ z. cond z (suc (leading t (rs ++ fs))) 0) (eq-eqb r.top t h.0) ∙ (ap suc (leading-rows t b rs fs h.2) ∙ omega arith)

pub leading-flat : (t u low : ℕ) (r : List ℕ) (cs : List Change) (high e : ℕ) → Bands low r cs high → t < u → t < low → leading t (flat u r cs e) ≡ 0
leading-flat t u low [] [] high e h l m = refl
leading-flat t u low [] (c ∷ cs) high e h l m = leading-flat t c.at (suc c.at) c.row cs high e h.3 (omega arith) (omega arith)
leading-flat t u low (x ∷ []) [] high e h l m = refl
leading-flat t u low (x ∷ []) (c ∷ cs) high e h l m = leading-flat t c.at (suc c.at) c.row cs high e h.3 (omega arith) (omega arith)
leading-flat t u low (x ∷ y ∷ r) [] high e h l m = ap (λ z. cond z (suc (leading t (boxes u e r))) 0) (ne_eqb u t (omega arith))
leading-flat t u low (x ∷ y ∷ r) (c ∷ cs) high e h l m = ap (λ z. cond z (suc (leading t (boxes u c.at r ++ flat c.at c.row cs e))) 0) (ne_eqb u t (omega arith))

-- no boxes left
flat-empty : (t low : ℕ) (r : List ℕ) (cs : List Change) (high e : ℕ) → Bands low r cs high → Row 4096 r → last_row r cs ≡ [] → flat t r cs e ≡ [] → (r ≡ []) × (cs ≡ [])
flat-empty t low r [] high e h k l m = (l, refl)
flat-empty t low [] (c ∷ cs) high e h k l m = absurd (h.1 (flat-empty c.at (suc c.at) c.row cs high e h.3 h.2 l m).0)
flat-empty t low (x ∷ []) (c ∷ cs) high e h k l m = absurd (true≢false k.1)
flat-empty t low (x ∷ y ∷ r) (c ∷ cs) high e h k l m = absurd (nil≢cons _ _ (sym m))

-- the reader stays in its band as long as the next change is below
later : (y z : ℕ) (r : List ℕ) (cs : List Change) → Bands (suc y) r cs 4097 → y ≤ z → z ≤ 4096 → ((c : Change) (ds : List Change) → cs ≡ c ∷ ds → z < c.at) → Bands (suc z) r cs 4097
later y z r [] h l m n = omega arith
later y z r (c ∷ cs) h l m n = (n c cs refl, h.1, h.2, h.3)

no-boxes : (a : List Rect) (p : ℕ) → take (p - p) (drop p a) ≡ []
no-boxes a p = let e : p - p ≡ 0 = omega arith in ap (λ z. take z (drop p a)) e

pub slab-end : (a : List Rect) (p y : ℕ) → Rest a p y → length a ≤ p → Slab a p y p none
slab-end a p y R h =
    record {
      first = omega arith;
      last = R.within;
      later = omega (arith, bands-spread (suc y) R.row R.bands 4097 R.next);
      low = λ l. absurd (omega arith);
      row = rw (no-boxes a p) (omega arith);
      dots = λ i j l m. empty i j l ∙ ap (λ z. across z i) (sym (no-boxes a p));
      over = λ _ i j l. empty i j l;
      stays = λ z l m n.
          record {
            t = R.t;
            row = R.row;
            bands = R.bands;
            left = R.left;
            began = omega (arith, R.began);
            good = R.good;
            next = later y z R.row R.bands R.next l n (λ c ds e. absurd (nil≢cons c ds (sym both.1 ∙ e)));
            ends = R.ends;
            dots = λ i j q. R.dots i j (omega arith);
            within = R.within;
          };
      goes = λ l. absurd (omega arith);
    }
  where
    both : (R.row ≡ []) × (R.bands ≡ [])
    both = flat-empty R.t (suc y) R.row R.bands 4097 4096 R.next R.good R.ends (sym R.left ∙ drop_all p a h)

    empty : (i j : ℕ) → y ≤ j → covers a i j ≡ false
    empty i j l = R.dots i j l ∙ ap₂ (λ r cs. inside (row_at r cs j) i) both.0 both.1

module _ (a : List Rect) (p y t : ℕ) (began : t ≤ y) (within : p ≤ length a) where
  -- above the next band
  gap : (c : Change) (cs : List Change) → drop p a ≡ flat t [] (c ∷ cs) 4096 → Bands (suc y) [] (c ∷ cs) 4097 → last_row [] (c ∷ cs) ≡ [] →
      ((i j : ℕ) → y ≤ j → covers a i j ≡ inside (row_at [] (c ∷ cs) j) i) → Slab a p y p c.at
  gap c cs left next ends dots =
      record {
        first = omega arith;
        last = within;
        later = omega arith;
        low = λ l. omega (arith, bands-spread (suc c.at) c.row cs 4097 next.3);
        row = rw (no-boxes a p) (omega arith);
        dots = λ i j l m. dots i j l ∙ (ap (λ z. inside z i) (at_before [] c cs j m) ∙ ap (λ z. across z i) (sym (no-boxes a p)));
        over = λ e. absurd (omega (arith, bands-spread (suc c.at) c.row cs 4097 next.3));
        stays = λ z l m n.
            record { t = t; row = []; bands = c ∷ cs; left = left; began = omega arith; good = (omega arith, refl); next = (m, next.1, next.2, next.3); ends = ends; dots = λ i j q. dots i j (omega arith); within = within };
        goes = λ l.
            record {
              t = c.at;
              row = c.row;
              bands = cs;
              left = left;
              began = omega arith;
              good = next.2;
              next = next.3;
              ends = ends;
              dots = λ i j q. dots i j (omega arith) ∙ ap (λ z. inside z i) (at-past [] c cs j q);
              within = within;
            };
      }

  -- in a band
  in_band : (row : List ℕ) (c : Change) (cs : List Change) → drop p a ≡ flat t row (c ∷ cs) 4096 → Row 4096 row → Bands (suc y) row (c ∷ cs) 4097 → last_row row (c ∷ cs) ≡ [] →
      ((i j : ℕ) → y ≤ j → covers a i j ≡ inside (row_at row (c ∷ cs) j) i) → Slab a p y (p + leading t (drop p a)) c.at
  in_band row c cs left good next ends dots =
      record {
        first = omega arith;
        last = omega (arith, size, long);
        later = omega arith;
        low = λ l. omega (arith, bands-spread (suc c.at) c.row cs 4097 next.3);
        row = rw (here ∙ refl) (rw (edges-boxes t c.at row good.1) good.0);
        dots = λ i j l m. dots i j l ∙ (ap (λ z. inside z i) (at_before row c cs j m) ∙ (sym (across-row i) ∙ ap (λ z. across z i) (sym here)));
        over = λ e. absurd (omega (arith, bands-spread (suc c.at) c.row cs 4097 next.3));
        stays = λ z l m n.
            record { t = t; row = row; bands = c ∷ cs; left = left; began = omega arith; good = good; next = (m, next.1, next.2, next.3); ends = ends; dots = λ i j q. dots i j (omega arith); within = within };
        goes = λ l.
            record {
              t = c.at;
              row = c.row;
              bands = cs;
              left = sym (drop-drop (leading t (drop p a)) p a) ∙ (ap₂ (λ n z. drop n z) size left ∙ drop_at B F (length B) refl);
              began = omega arith;
              good = next.2;
              next = next.3;
              ends = ends;
              dots = λ i j q. dots i j (omega arith) ∙ ap (λ z. inside z i) (at-past row c cs j q);
              within = omega (arith, size, long);
            };
      }
    where
      B : List Rect
      B = boxes t c.at row

      F : List Rect
      F = flat c.at c.row cs 4096

      size : leading t (drop p a) ≡ length B
      size =
          ap (leading t) left
          ∙ (leading-rows t c.at B F (rows-boxes t c.at row) ∙ (ap (λ z. length B + z) (leading-flat t c.at (suc c.at) c.row cs 4097 4096 next.3 (omega arith) (omega arith)) ∙ omega arith))

      long : length B ≤ length a - p
      long = let e = ap length left in let f = length-drop p a in let g = length-append B F in omega arith

      here : take (p + leading t (drop p a) - p) (drop p a) ≡ B
      here = let e : p + leading t (drop p a) - p ≡ length B = omega (arith, size) in ap₂ (λ n z. take n z) e left ∙ take_at B F (length B) refl

      across-row : (i : ℕ) → across B i ≡ inside row i
      across-row i = let e = edges-boxes t c.at row good.1 in across-inside 0 B 4097 i (rw e good.0) ∙ ap (λ z. inside z i) e

  by-case : (row : List ℕ) (bands : List Change) → drop p a ≡ flat t row bands 4096 → Row 4096 row → Bands (suc y) row bands 4097 → last_row row bands ≡ [] →
      ((i j : ℕ) → y ≤ j → covers a i j ≡ inside (row_at row bands j) i) → p < length a →
      (y < (get_or a p blank).top → Slab a p y p (get_or a p blank).top) × ((get_or a p blank).top ≤ y → Slab a p y (p + leading (get_or a p blank).top (drop p a)) (get_or a p blank).below)
  by-case [] [] left good next ends dots h = absurd (nil≢cons _ _ (sym left ∙ drop_more a p blank h))
  by-case [] (c ∷ cs) left good next ends dots h = ((λ _. subst (λ n. Slab a p y p n) (sym e) (gap c cs left next ends dots)), (λ l. absurd (omega (arith, e))))
    where
      e : (get_or a p blank).top ≡ c.at
      e = head-change 0 c cs 4097 4096 (get_or a p blank) (drop (p + 1) a) next.1 next.2 (sym left ∙ drop_more a p blank h)
  by-case (x ∷ row) [] left good next ends dots h = absurd (nil≢cons _ _ (sym ends))
  by-case (x ∷ row) (c ∷ cs) left good next ends dots h =
      ((λ l. absurd (omega (arith, e))), (λ _. subst₂ (λ n m. Slab a p y (p + leading n (drop p a)) m) (sym e) (sym f) (in_band (x ∷ row) c cs left good next ends dots)))
    where
      e : (get_or a p blank).top ≡ t
      e = head-top t x row (c ∷ cs) 4096 (get_or a p blank) (drop (p + 1) a) good.1 (sym left ∙ drop_more a p blank h)

      f : (get_or a p blank).below ≡ c.at
      f = head-below t x row c cs 4096 (get_or a p blank) (drop (p + 1) a) good.1 (sym left ∙ drop_more a p blank h)

pub slab-gap : (a : List Rect) (p y : ℕ) → Rest a p y → p < length a → y < (get_or a p blank).top → Slab a p y p (get_or a p blank).top
slab-gap a p y R h = (by-case a p y R.t R.began R.within R.row R.bands R.left R.good R.next R.ends R.dots h).0

pub slab-band : (a : List Rect) (p y : ℕ) → Rest a p y → p < length a → (get_or a p blank).top ≤ y → Slab a p y (p + leading (get_or a p blank).top (drop p a)) (get_or a p blank).below
slab-band a p y R h = (by-case a p y R.t R.began R.within R.row R.bands R.left R.good R.next R.ends R.dots h).1
