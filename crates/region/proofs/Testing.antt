-- Whether boxes are a region, found from above, band by band.
use Rattle.std.proofs.Common.{◌≡◌, ℕ, suc, ◌+◌, ◌-◌, ◌<◌, ◌≤◌, Bool, true, false, cond, not, ◌&&◌, eqb, ltb, leb, ◌≢◌, ◌⊎◌, List, [], ◌∷◌, ◌++◌, length, get_or, take, drop, sym, refl, ap, ◌∙◌, subst, ap₂, subst₂, inl, inr, arith}
use Rattle.std.proofs.lemmas.Bool.{eq-eqb, cases_lt, cases_eq, true≢false, and_parts, eqb-true}
use Rattle.std.proofs.lemmas.Bool.Decides.{nat_tests}
use Rattle.std.proofs.lemmas.List.{drop_more, drop_all, drop-drop, length-drop, take_at, drop_at, take-append-drop}
use Rattle.geometry.specs.declared.Rect.{Rect}
use Rattle.geometry.specs.Boxes.{blank}
use Rattle.region.specs.Edges.{Between, Row}
use Rattle.region.specs.Boxes.{edges, Rows}
use Rattle.region.specs.Bands.{Change, last_row, Bands, Region, same_edges}
use Rattle.region.specs.Flat.{boxes, flat, Canonical}
use Rattle.region.specs.Reader.{leading}
use Rattle.region.specs.Checks.{fits_band, in_band, follows_on}
use Rattle.region.proofs.Pairs.{odd-edges}
use Rattle.region.proofs.Banding.{same_true, same_false, lower-bands}
use Rattle.region.proofs.Flattening.{edges-boxes, rows-boxes, boxes-edges, bands-spread}
use Rattle.region.proofs.Walks.{leading-short}
use Rattle.region.proofs.Reading.{nil≢cons, head-top, head-below, leading-rows, leading-flat}

-- the boxes rs go on from the row y, where a band with the edges `above` ends
pub record Tail (above : List ℕ) (y : ℕ) (rs : List Rect) : Type 0 where
  pub row : List ℕ
  pub bands : List Change
  pub are : rs ≡ flat y row bands 4096
  pub differs : row ≡ above → row ≡ []
  pub good : Row 4096 row
  pub next : Bands (suc y) row bands 4097
  pub ends : last_row row bands ≡ []

-- the start, both ways
pub tail-whole : (rs : List Rect) → Canonical rs → Tail [] 0 rs
tail-whole rs k = go k.bands k.good k.are
  where
    go : (cs : List Change) → Region 4096 cs → rs ≡ flat 0 [] cs 4096 → Tail [] 0 rs
    go [] g e = record { row = []; bands = []; are = e; differs = λ _. refl; good = (omega arith, refl); next = omega arith; ends = refl }
    go (c ∷ cs) g e = by (cases_lt 0 c.at)
      where
        by : (0 < c.at) ⊎ (c.at ≤ 0) → Tail [] 0 rs
        by (inl l) = record { row = []; bands = c ∷ cs; are = e; differs = λ _. refl; good = (omega arith, refl); next = (l, g.0.1, g.0.2, g.0.3); ends = g.1 }
        by (inr l) =
            let z : c.at ≡ 0 = omega arith in
            record {
              row = c.row;
              bands = cs;
              are = e ∙ ap (λ (t : ℕ). flat t c.row cs 4096) z;
              differs = λ q. q;
              good = g.0.2;
              next = lower-bands (suc c.at) 1 c.row cs 4097 g.0.3 (omega arith);
              ends = g.1;
            }

pub whole-tail : (rs : List Rect) → Tail [] 0 rs → Canonical rs
whole-tail rs k = go k.row k.bands k.are k.good k.next k.ends
  where
    go : (row : List ℕ) (cs : List Change) → rs ≡ flat 0 row cs 4096 → Row 4096 row → Bands 1 row cs 4097 → last_row row cs ≡ [] → Canonical rs
    go [] cs e g n l = record { bands = cs; good = (lower-bands 1 0 [] cs 4097 n (omega arith), l); are = e }
    go (x ∷ row) cs e g n l =
        record { bands = record { at = 0; row = x ∷ row } ∷ cs; good = ((omega arith, (λ q. nil≢cons x row (sym q)), g, n), l); are = e }

-- no boxes are left
pub tail-end : (above : List ℕ) (y : ℕ) → y ≤ 4096 → Tail above y []
tail-end above y h = record { row = []; bands = []; are = refl; differs = λ _. refl; good = (omega arith, refl); next = omega arith; ends = refl }

-- a band goes on with the rest
pub tail_more : (above : List ℕ) (y t b : ℕ) (B rs : List Rect) → Rows t b B → Between 0 (edges B) 4097 → (edges B ≡ [] → ⊥) → y ≤ t → t < b → (y ≡ t → edges B ≢ above) → Tail (edges B) b rs → Tail above y (B ++ rs)
tail_more above y t b B rs rows rises some from on differs k = by (cases_eq y t)
  where
    c : Change
    c = record { at = b; row = k.row }

    other : k.row ≢ edges B
    other q = some (sym q ∙ k.differs q)

    here : B ++ rs ≡ boxes t b (edges B) ++ flat b k.row k.bands 4096
    here = ap₂ (λ u v. u ++ v) (sym (boxes-edges t b B rows)) k.are

    by : (y ≡ t) ⊎ (y ≡ t → ⊥) → Tail above y (B ++ rs)
    by (inl q) =
        record {
          row = edges B;
          bands = c ∷ k.bands;
          are = here ∙ ap (λ (z : ℕ). boxes z b (edges B) ++ flat b k.row k.bands 4096) (sym q);
          differs = λ z. absurd (differs q z);
          good = (rises, odd-edges B);
          next = (omega arith, other, k.good, k.next);
          ends = k.ends;
        }
    by (inr q) =
        record {
          row = [];
          bands = record { at = t; row = edges B } ∷ c ∷ k.bands;
          are = here;
          differs = λ _. refl;
          good = (omega arith, refl);
          next = (omega arith, some, (rises, odd-edges B), (on, other, k.good, k.next));
          ends = k.ends;
        }

-- the first band of what is left, and the rest
pub record First (above : List ℕ) (y : ℕ) (rs : List Rect) (t b : ℕ) : Type 0 where
  pub from : y ≤ t
  pub on : t < b
  pub low : b ≤ 4096
  pub rows : Rows t b (take (leading t rs) rs)
  pub rises : Between 0 (edges (take (leading t rs) rs)) 4097
  pub differs : y ≡ t → edges (take (leading t rs) rs) ≢ above
  pub rest : Tail (edges (take (leading t rs) rs)) b (drop (leading t rs) rs)

first-band : (above : List ℕ) (y t : ℕ) (row : List ℕ) (c : Change) (cs : List Change) → Row 4096 row → Bands (suc t) row (c ∷ cs) 4097 → last_row row (c ∷ cs) ≡ [] → y ≤ t → (y ≡ t → row ≢ above) →
    First above y (flat t row (c ∷ cs) 4096) t c.at
first-band above y t row c cs good next ends from differs =
    record {
      from = from;
      on = next.0;
      low = omega (arith, bands-spread (suc c.at) c.row cs 4097 next.3);
      rows = subst (Rows t c.at) (sym here) (rows-boxes t c.at row);
      rises = subst (λ (z : List ℕ). Between 0 z 4097) (sym is) good.0;
      differs = λ q z. differs q (sym is ∙ z);
      rest =
          subst₂ (λ (u : List ℕ) (v : List Rect). Tail u c.at v) (sym is) (sym past)
          (record { row = c.row; bands = cs; are = refl; differs = λ q. absurd (next.1 q); good = next.2; next = next.3; ends = ends });
    }
  where
    B : List Rect
    B = boxes t c.at row

    F : List Rect
    F = flat c.at c.row cs 4096

    size : leading t (B ++ F) ≡ length B
    size = leading-rows t c.at B F (rows-boxes t c.at row) ∙ (ap (λ z. length B + z) (leading-flat t c.at (suc c.at) c.row cs 4097 4096 next.3 (omega arith) (omega arith)) ∙ omega arith)

    here : take (leading t (B ++ F)) (B ++ F) ≡ B
    here = take_at B F (leading t (B ++ F)) (sym size)

    past : drop (leading t (B ++ F)) (B ++ F) ≡ F
    past = drop_at B F (leading t (B ++ F)) (sym size)

    is : edges (take (leading t (B ++ F)) (B ++ F)) ≡ row
    is = ap edges here ∙ edges-boxes t c.at row good.1

pub tail-first : (above : List ℕ) (y : ℕ) (rs : List Rect) (f : Rect) (fs : List Rect) → Tail above y rs → rs ≡ f ∷ fs → First above y rs f.top f.below
tail-first above y rs f fs k h = go k.row k.bands k.are k.differs k.good k.next k.ends
  where
    -- a band with boxes, by its top
    at-band : (t x : ℕ) (row : List ℕ) (c : Change) (cs : List Change) → rs ≡ flat t (x ∷ row) (c ∷ cs) 4096 → Row 4096 (x ∷ row) → Bands (suc t) (x ∷ row) (c ∷ cs) 4097 → last_row (x ∷ row) (c ∷ cs) ≡ [] → y ≤ t → (y ≡ t → x ∷ row ≢ above) →
        First above y rs f.top f.below
    at-band t x row c cs e g n l m d =
        subst₂ (λ (u v : ℕ). First above y rs u v) (sym (head-top t x row (c ∷ cs) 4096 f fs g.1 (sym e ∙ h))) (sym (head-below t x row c cs 4096 f fs g.1 (sym e ∙ h)))
        (subst (λ (z : List Rect). First above y z t c.at) (sym e) (first-band above y t (x ∷ row) c cs g n l m d))

    in-gap : (c : Change) (cs : List Change) (r : List ℕ) → c.row ≡ r → rs ≡ flat c.at r cs 4096 → r ≢ [] → Row 4096 r → Bands (suc c.at) r cs 4097 → last_row r cs ≡ [] → y < c.at → First above y rs f.top f.below
    in-gap c cs [] q e s g n l m = absurd (s refl)
    in-gap c [] (x ∷ r) q e s g n l m = absurd (nil≢cons x r (sym l))
    in-gap c (d ∷ ds) (x ∷ r) q e s g n l m = at-band c.at x r d ds e g n l (omega arith) (λ z. absurd (omega arith))

    go : (row : List ℕ) (cs : List Change) → rs ≡ flat y row cs 4096 → (row ≡ above → row ≡ []) → Row 4096 row → Bands (suc y) row cs 4097 → last_row row cs ≡ [] → First above y rs f.top f.below
    go [] [] e d g n l = absurd (nil≢cons f fs (sym e ∙ h))
    go [] (c ∷ cs) e d g n l = in-gap c cs c.row refl e n.1 n.2 n.3 l n.0
    go (x ∷ row) [] e d g n l = absurd (nil≢cons x row (sym l))
    go (x ∷ row) (c ∷ cs) e d g n l = at-band y x row c cs e g n l (omega arith) (λ _ z. nil≢cons x row (sym (d z)))

-- the tests
pub in_band-is : (t b low : ℕ) (rs : List Rect) → low ≤ 4097 → in_band t b low rs ≡ true → Rows t b rs × Between low (edges rs) 4097
in_band-is t b low [] m h = (tt, m)
in_band-is t b low (r ∷ rs) m h =
    let p = and_parts (fits_band t b low r) (in_band t b (suc r.right) rs) h in
    let q = fits-is t b low r p.0 in
    let k = in_band-is t b (suc r.right) rs (omega (arith, q.4)) p.1 in
    ((q.0, q.1, k.0), (q.2, (q.3, k.1)))
  where
    fits-is : (t b low : ℕ) (r : Rect) → fits_band t b low r ≡ true → (r.top ≡ t) × (r.below ≡ b) × (low ≤ r.left) × (r.left < r.right) × (r.right ≤ 4096)
    fits-is t b low r h = (grind (arith, nat_tests), grind (arith, nat_tests), grind (arith, nat_tests), grind (arith, nat_tests), grind (arith, nat_tests))

pub is-in_band : (t b low : ℕ) (rs : List Rect) → Rows t b rs → Between low (edges rs) 4097 → in_band t b low rs ≡ true
is-in_band t b low [] h k = refl
is-in_band t b low (r ∷ rs) h k =
    ap₂ (λ p q. p && q) (is-fit r.top r.below r.left r.right h.0 h.1 k.0 k.1.0 (right-low (suc r.right) (edges rs) k.1.1)) (is-in_band t b (suc r.right) rs h.2 k.1.1)
  where
    right-low : (z : ℕ) (es : List ℕ) → Between z es 4097 → z ≤ 4097
    right-low z [] q = q
    right-low z (e ∷ es) q = let w = right-low (suc e) es q.1 in omega arith

    is-fit : (u v l r : ℕ) → u ≡ t → v ≡ b → low ≤ l → l < r → suc r ≤ 4097 → ((eqb u t && eqb v b) && (leb low l && (ltb l r && leb r 4096))) ≡ true
    is-fit u v l r p q a b c = grind (arith, nat_tests)

-- what the test of one band says
follows-parts : (p q r s : Bool) → ((p && (q && r)) && s) ≡ true → (p ≡ true) × (q ≡ true) × (r ≡ true) × (s ≡ true)
follows-parts true true true true h = (refl, refl, refl, refl)
follows-parts true true true false h = absurd (true≢false (sym h))
follows-parts true true false s h = absurd (true≢false (sym h))
follows-parts true false r s h = absurd (true≢false (sym h))
follows-parts false q r s h = absurd (true≢false (sym h))

not-both : (p q : Bool) → not (p && q) ≡ true → p ≡ true → q ≡ false
not-both true true h e = absurd (true≢false (sym h))
not-both true false h e = refl
not-both false q h e = absurd (true≢false (sym e))

is-not-both : (p q : Bool) → (p ≡ true → q ≡ false) → not (p && q) ≡ true
is-not-both true true h = absurd (true≢false (h refl))
is-not-both true false h = refl
is-not-both false q h = refl

pub record Follows (above : List ℕ) (y : ℕ) (B : List Rect) (f : Rect) : Type 0 where
  pub from : y ≤ f.top
  pub on : f.top < f.below
  pub low : f.below ≤ 4096
  pub rows : Rows f.top f.below B
  pub rises : Between 0 (edges B) 4097
  pub differs : y ≡ f.top → edges B ≢ above

pub follows_is : (A : List Rect) (y : ℕ) (B : List Rect) (f : Rect) → follows_on A y B f ≡ true → Follows (edges A) y B f
follows_is A y B f h =
    let p = follows-parts (leb y f.top) (ltb f.top f.below) (leb f.below 4096) (in_band f.top f.below 0 B && not (eqb y f.top && same_edges (edges A) (edges B))) h in
    let q = and_parts (in_band f.top f.below 0 B) (not (eqb y f.top && same_edges (edges A) (edges B))) p.3 in
    let k = in_band-is f.top f.below 0 B (omega arith) q.0 in
    record {
      from = let e = p.0 in grind (arith, nat_tests);
      on = let e = p.1 in grind (arith, nat_tests);
      low = let e = p.2 in grind (arith, nat_tests);
      rows = k.0;
      rises = k.1;
      differs = λ e z. same_false (edges A) (edges B) (not-both (eqb y f.top) (same_edges (edges A) (edges B)) q.1 (eq-eqb y f.top e)) (sym z);
    }

pub is-follows : (A : List Rect) (y : ℕ) (B : List Rect) (f : Rect) → Follows (edges A) y B f → follows_on A y B f ≡ true
is-follows A y B f k =
    let a : leb y f.top ≡ true = let h = k.from in grind (arith, nat_tests) in
    let b : ltb f.top f.below ≡ true = let h = k.on in grind (arith, nat_tests) in
    let c : leb f.below 4096 ≡ true = let h = k.low in grind (arith, nat_tests) in
    let d : in_band f.top f.below 0 B ≡ true = is-in_band f.top f.below 0 B k.rows k.rises in
    let e : not (eqb y f.top && same_edges (edges A) (edges B)) ≡ true = is-not-both (eqb y f.top) (same_edges (edges A) (edges B)) (λ q. by (same_edges (edges A) (edges B)) refl (k.differs (eqb-true y f.top q))) in
    ap₂ (λ u v. (u && (v && leb f.below 4096)) && (in_band f.top f.below 0 B && not (eqb y f.top && same_edges (edges A) (edges B)))) a b
    ∙ (ap₂ (λ u v. u && (v && not (eqb y f.top && same_edges (edges A) (edges B)))) c d ∙ e)
  where
    by : (z : Bool) → same_edges (edges A) (edges B) ≡ z → (edges B ≢ edges A) → same_edges (edges A) (edges B) ≡ false
    by true e n = absurd (n (sym (same_true (edges A) (edges B) e)))
    by false e n = e

leading-some : (t : ℕ) (f : Rect) (fs : List Rect) → f.top ≡ t → 0 < leading t (f ∷ fs)
leading-some t f fs e = let k : leading t (f ∷ fs) ≡ suc (leading t fs) = ap (λ b. cond b (suc (leading t fs)) 0) (eq-eqb f.top t e) in omega arith

-- the walk over the bands: the boxes are a region just where what is left goes on
pub record Tested (A : List Rect) (m p y : ℕ) : Type 0 where
  pub sound : Tail (edges (take (p - m) (drop m A))) y (drop p A) → Canonical A
  pub complete : Canonical A → Tail (edges (take (p - m) (drop m A))) y (drop p A)
  pub order : m ≤ p
  pub within : p ≤ length A
  pub low : y ≤ 4096

pub tested-start : (A : List Rect) → Tested A 0 0 0
tested-start A = record { sound = whole-tail A; complete = tail-whole A; order = omega arith; within = omega arith; low = omega arith }

pub tested-end : (A : List Rect) (m p y : ℕ) → Tested A m p y → length A ≤ p → Canonical A
tested-end A m p y s h = s.sound (subst (λ (z : List Rect). Tail (edges (take (p - m) (drop m A))) y z) (sym (drop_all p A h)) (tail-end _ y s.low))

module _ (A : List Rect) (m p y e : ℕ) (f : Rect) (s : Tested A m p y) (h : p < length A) (is : f ≡ get_or A p blank) (end : e ≡ p + leading f.top (drop p A)) where
  first-is : drop p A ≡ f ∷ drop (p + 1) A
  first-is = drop_more A p blank h ∙ ap (λ (z : Rect). z ∷ drop (p + 1) A) (sym is)

  pub band-on : p < e
  band-on = omega (arith, end, leading-some f.top f (drop (p + 1) A) refl, ap (leading f.top) first-is)

  size : e - p ≡ leading f.top (drop p A)
  size = omega (arith, end)

  here : take (e - p) (drop p A) ≡ take (leading f.top (drop p A)) (drop p A)
  here = ap (λ (z : ℕ). take z (drop p A)) size

  past : drop e A ≡ drop (leading f.top (drop p A)) (drop p A)
  past = ap (λ (z : ℕ). drop z A) end ∙ sym (drop-drop (leading f.top (drop p A)) p A)

  some : edges (take (e - p) (drop p A)) ≡ [] → ⊥
  some q =
      let z : ◌≡◌ {A = List ℕ} [] (f.left ∷ f.right ∷ edges (take (e - p - 1) (drop (p + 1) A))) = sym q ∙ ap edges one in
      nil≢cons _ _ z
    where
      one : take (e - p) (drop p A) ≡ f ∷ take (e - p - 1) (drop (p + 1) A)
      one = let n : e - p ≡ suc (e - p - 1) = omega (arith, band-on) in ap₂ (λ (u : ℕ) (v : List Rect). take u v) n first-is

  goes : Tail (edges (take (p - m) (drop m A))) y (drop p A) → Follows (edges (take (p - m) (drop m A))) y (take (e - p) (drop p A)) f × Tail (edges (take (e - p) (drop p A))) f.below (drop e A)
  goes k =
      let q = tail-first _ y (drop p A) f (drop (p + 1) A) k first-is in (
        record {
          from = q.from;
          on = q.on;
          low = q.low;
          rows = subst (Rows f.top f.below) (sym here) q.rows;
          rises = subst (λ (z : List Rect). Between 0 (edges z) 4097) (sym here) q.rises;
          differs = λ u v. q.differs u (ap edges (sym here) ∙ v);
        },
        subst₂ (λ (u v : List Rect). Tail (edges u) f.below v) (sym here) (sym past) q.rest,
      )

  pub tested-step : follows_on (take (p - m) (drop m A)) y (take (e - p) (drop p A)) f ≡ true → Tested A p e f.below
  tested-step t =
      let k = follows_is (take (p - m) (drop m A)) y (take (e - p) (drop p A)) f t in
      record {
        sound = λ r.
            s.sound
            (subst (λ (z : List Rect). Tail (edges (take (p - m) (drop m A))) y z) joined
            (tail_more _ y f.top f.below (take (e - p) (drop p A)) (drop e A) k.rows k.rises some k.from k.on k.differs r));
        complete = λ c. (goes (s.complete c)).1;
        order = omega (arith, band-on);
        within = omega (arith, end, leading-short f.top (drop p A), length-drop p A);
        low = k.low;
      }
    where
      joined : take (e - p) (drop p A) ++ drop e A ≡ drop p A
      joined = ap₂ (λ (u v : List Rect). u ++ v) here past ∙ take-append-drop (leading f.top (drop p A)) (drop p A)

  pub tested-stop : follows_on (take (p - m) (drop m A)) y (take (e - p) (drop p A)) f ≡ false → Canonical A → ⊥
  tested-stop t c = true≢false (sym (is-follows (take (p - m) (drop m A)) y (take (e - p) (drop p A)) f (goes (s.complete c)).0) ∙ t)
