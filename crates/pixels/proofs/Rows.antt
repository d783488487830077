-- A box of a picture that is painted row by row.
use Rattle.std.proofs.Common.{◌≡◌, ℕ, ◌+◌, ◌*◌, ◌<◌, ◌≤◌, Bool, false, ◌&&◌, ◌||◌, eqb, ltb, ◌⊎◌, List, length, get_or, refl, ◌∙◌, inl, inr, arith}
use Rattle.std.proofs.lemmas.Bool.{cases_eq, cases_Bool, eq-eqb, ne_eqb, and_left, and_right, and_parts, ltb-true, and_cases, ltb-false}
use Rattle.std.proofs.lemmas.Bool.Decides.{nat_tests}
use Rattle.model.specs.Basics.{pick, in_run, in_box}
use Rattle.pixels.specs.Runs.{Changed}
use Rattle.pixels.specs.Pictures.{place, dots_of}
use Rattle.pixels.proofs.Runs.{in_run-parts, in_run-above, in_run-apart, row-after, row-hit}

-- of the columns x .. x + w the rows lo .. lo + n of a picture have become g; its other dots, and what lies outside of it, are as they were
pub record Rows (at s high x w lo n : ℕ) (g : ℕ → ℕ → ℕ) (old new : List ℕ) : Type 0 where
  pub dots : (i j : ℕ) → i < s → get_or new (place at s i j) 0 ≡ pick (in_run x w i && in_run lo n j) (g i j) (get_or old (place at s i j) 0)
  pub others : (k : ℕ) → (k < at) ⊎ (at + s * high ≤ k) → get_or new k 0 ≡ get_or old k 0
  pub len : length new ≡ length old

pub rows_none : (at s high x w lo : ℕ) (g : ℕ → ℕ → ℕ) (old : List ℕ) → Rows at s high x w lo 0 g old old
rows_none at s high x w lo g old = record { dots = λ i j h. none (in_run x w i) lo j (g i j) _; others = λ k o. refl; len = refl }
  where
    none : (b : Bool) (lo j q v : ℕ) → v ≡ pick (b && in_run lo 0 j) q v
    none b lo j q v = rw (and_right b (in_run lo 0 j) (no_run lo j))
      where
        no_run : (lo j : ℕ) → in_run lo 0 j ≡ false
        no_run lo j = grind (arith, nat_tests)

-- one more row, r
pub rows_more : (at s high x w lo n lo' n' r : ℕ) (g : ℕ → ℕ → ℕ) (f : ℕ → ℕ) (old new new' : List ℕ) → x + w ≤ s → r < high →
    ((j : ℕ) → in_run lo' n' j ≡ (eqb j r || in_run lo n j)) → Rows at s high x w lo n g old new → Changed (place at s x r) w f new new' →
    ((i : ℕ) → x ≤ i → i < x + w → f (place at s i r) ≡ g i r) → Rows at s high x w lo' n' g old new'
rows_more at s high x w lo n lo' n' r g f old new new' u v t p q e =
    record {
      dots = λ i j h. q.places (place at s i j) ∙ rw (row-hit at s x w r i j h u, t j) (by i j h (cases_eq j r));
      others = λ k o.
          let a = row-after r high s v in
          q.places k ∙ rw (in_run-apart (place at s x r) w k at (at + s * high) (omega arith) (omega arith) o) (p.others k o);
      len = q.len ∙ p.len;
    }
  where
    by : (i j : ℕ) → i < s → (j ≡ r) ⊎ (j ≡ r → ⊥) →
        pick (eqb j r && in_run x w i) (f (place at s i j)) (get_or new (place at s i j) 0)
        ≡ pick (in_run x w i && (eqb j r || in_run lo n j)) (g i j) (get_or old (place at s i j) 0)
    by i j h (inl z) =
        elim (cases_Bool (in_run x w i)) [
          | inl b ↦ let l = in_run-parts x w i b in rw (eq-eqb j r z, b, z) (e i l.0 l.1)
          | inr b ↦ rw (eq-eqb j r z, b) (p.dots i j h ∙ rw b)
        ]
    by i j h (inr z) = rw (ne_eqb j r z) (p.dots i j h)

-- all rows: what became of the dots of the picture
pub rows_all : (at s high x y w h : ℕ) (g g' : ℕ → ℕ → ℕ) (old new : List ℕ) → x + w ≤ s → y + h ≤ high → Rows at s high x w y h g old new →
    ((i j : ℕ) → x ≤ i → i < x + w → y ≤ j → j < y + h → g i j ≡ g' i j) →
    (i j : ℕ) → dots_of new at s high i j ≡ pick (in_box x y w h i j) (g' i j) (dots_of old at s high i j)
unfolding dots_of in_box
rows_all at s high x y w h g g' old new u v p e i j =
    elim (cases_Bool (ltb i s && ltb j high)) [ inl b ↦ rw b (inside (ltb-true i s (and_parts _ _ b).0)) | inr b ↦ rw (b, out b) ]
  where
    inside : i < s → get_or new (place at s i j) 0 ≡ pick (in_run x w i && in_run y h j) (g' i j) (get_or old (place at s i j) 0)
    inside l =
        elim (cases_Bool (in_run x w i && in_run y h j)) [
          | inl b ↦
              let c = and_parts (in_run x w i) (in_run y h j) b in
              let a = in_run-parts x w i c.0 in
              let d = in_run-parts y h j c.1 in
              p.dots i j l ∙ rw b (e i j a.0 a.1 d.0 d.1)
          | inr b ↦ p.dots i j l ∙ rw b
        ]

    out : (ltb i s && ltb j high) ≡ false → (in_run x w i && in_run y h j) ≡ false
    out b =
        elim (and_cases (ltb i s) (ltb j high) b) [
          | inl c ↦ and_left (in_run x w i) (in_run y h j) (in_run-above x w i (let d = ltb-false i s c in omega arith))
          | inr c ↦ and_right (in_run x w i) (in_run y h j) (in_run-above y h j (let d = ltb-false j high c in omega arith))
        ]
