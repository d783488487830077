use Rattle.std.proofs.Common.{◌≡◌, ℕ, zero, suc, ◌*◌, ◌<◌, ◌≤◌, false, ◌≢◌, List, [], ◌∷◌, length, sym, refl, ◌∙◌, subst, arith}
use Rattle.geometry.specs.declared.Rect.{Rect}
use Rattle.region.specs.Edges.{inside}
use Rattle.region.specs.Bands.{canon, row_at}
use Rattle.region.specs.Flat.{Canonical}
use Rattle.region.specs.Lines.{Only, among, before}
use Rattle.region.specs.Laws.{Unique, Found, found, Few, BoxIs}
use Rattle.region.proofs.Banding.{canon-region, canon-has, wider-bands}
use Rattle.region.proofs.Building.{unique-boxes, covers-has}
use Rattle.region.proofs.Counting.{region-few}

pub unique : Unique
unique = unique-boxes

pub is_found : Found
is_found f wide high w h = (k, (λ i j. covers-has (found f wide high) k i j ∙ canon-has f wide high i j w))
  where
    k : Canonical (found f wide high)
    k =
        let r = canon-region f wide high w in
        record { bands = canon f wide high; good = (wider-bands 0 [] (canon f wide high) (suc high) 4097 r.0 (omega arith), r.1); are = refl }

pub few : Few
few rs X Y k l = subst (λ (z : List Rect). 2 * length z ≤ length Y * length X) (sym k.are) (region-few k.bands 4097 4096 X Y k.good.0 columns rows)
  where
    columns : (j : ℕ) → j < 4097 → Only X (inside (row_at [] k.bands j))
    columns j m zero u = sym (covers-has rs k 0 j) ∙ l.columns j 0 u
    columns j m (suc i) u = sym (covers-has rs k (suc i) j) ∙ (l.columns j (suc i) u ∙ covers-has rs k i j)

    rows : (i j : ℕ) → j < 4097 → among Y j ≡ false → inside (row_at [] k.bands j) i ≡ before (λ z. inside (row_at [] k.bands z) i) j
    rows i zero m u = sym (covers-has rs k i 0) ∙ l.rows i 0 u
    rows i (suc j) m u = sym (covers-has rs k i (suc j)) ∙ (l.rows i (suc j) u ∙ covers-has rs k i j)

pub box-is : BoxIs
box-is r p =
    let a = p.wide in
    let b = p.on_right in
    let c = p.high in
    let d = p.on_below in
    record {
      bands = record { at = r.top; row = r.left ∷ r.right ∷ [] } ∷ record { at = r.below; row = [] } ∷ [];
      good = ((omega arith, (λ e. none (sym e)), ((omega arith, (a, omega arith)), refl), (c, none, (omega arith, refl), omega arith)), refl);
      are = refl;
    }
  where
    none : ◌≢◌ {A = List ℕ} [] (r.left ∷ r.right ∷ [])
    none e = let z : ◌≡◌ {A = ℕ} 0 1 = cc in omega arith
