-- Tests that some boxes are a region, band by band.
use Rattle.std.specs.Prelude.{ℕ, suc, Bool, true, not, ◌&&◌, List, [], ◌∷◌, ◌==◌, nat_le, nat_lt}
use Rattle.geometry.specs.declared.Rect.{Rect}
use Rattle.region.specs.Boxes.{edges}
use Rattle.region.specs.Bands.{same_edges}

-- a box may stand in a band with these rows, from the column `low` on
abbrev pub fits_band : ℕ → ℕ → ℕ → Rect → Bool
fits_band t b low r = (r.top == t && r.below == b) && (nat_le low r.left && (nat_lt r.left r.right && nat_le r.right 4096))

-- some boxes stand in one band, with a dot or more between them
abbrev pub in_band : ℕ → ℕ → ℕ → List Rect → Bool
in_band t b low [] = true
in_band t b low (r ∷ rs) = fits_band t b low r && in_band t b (suc r.right) rs

-- the boxes, the first of which is f, are a band that may follow another which ends at the row y
abbrev pub follows_on : List Rect → ℕ → List Rect → Rect → Bool
follows_on above y band f =
    (nat_le y f.top && (nat_lt f.top f.below && nat_le f.below 4096)) && (in_band f.top f.below 0 band && not (y == f.top && same_edges (edges above) (edges band)))
