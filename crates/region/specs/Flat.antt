-- A set of dots as boxes, in bands from above, and from left to right in each.
use Rattle.std.specs.Prelude.{◌≡◌, ℕ, Bool, false, ◌||◌, List, [], ◌∷◌, ◌++◌}
use Rattle.geometry.specs.declared.Rect.{Rect}
use Rattle.geometry.specs.Boxes.{in_rect}
use Rattle.geometry.specs.Boxes.{Proper as ProperOn}
use Rattle.region.specs.Bands.{Change, Region}

-- whether a box has the dot
abbrev pub covers : List Rect → ℕ → ℕ → Bool
covers [] i j = false
covers (r ∷ rs) i j = in_rect r i j || covers rs i j

-- the boxes of a band
abbrev pub boxes : ℕ → ℕ → List ℕ → List Rect
boxes t b [] = []
boxes t b (l ∷ []) = []
boxes t b (l ∷ r ∷ es) = record { left = l; top = t; right = r; below = b } ∷ boxes t b es

-- the boxes of all bands; the band of the edges r begins at t, and the last ends at e
abbrev pub flat : ℕ → List ℕ → List Change → ℕ → List Rect
flat t r [] e = boxes t e r
flat t r (c ∷ cs) e = boxes t c.at r ++ flat c.at c.row cs e

-- boxes in canonical form
pub record Canonical (rs : List Rect) : Type 0 where
  pub bands : List Change
  pub good : Region 4096 bands
  pub are : rs ≡ flat 0 [] bands 4096

-- a box with dots, on the desk: a region of its own
abbrev pub Proper : Rect → Type 0
Proper r = ProperOn 4096 4096 r
