-- Laws of regions: statements whose proofs are owed by functions that name them.
use Rattle.std.specs.Prelude.{◌≡◌, ℕ, suc, ◌*◌, ◌≤◌, Bool, if◌then◌else◌, ◌&&◌, List, [], ◌∷◌, length, nat_lt}
use Rattle.geometry.specs.declared.Rect.{Rect}
use Rattle.geometry.specs.Boxes.{in_rect}
use Rattle.region.specs.Bands.{canon}
use Rattle.region.specs.Flat.{covers, flat, Canonical, Proper}
use Rattle.region.specs.Lines.{Lines}
use Rattle.region.specs.Dots.{area, dots_in}

-- two canonical lists of boxes that cover the same dots are the same
abbrev pub Unique : Type 0
Unique = (rs ss : List Rect) → Canonical rs → Canonical ss → ((i j : ℕ) → covers rs i j ≡ covers ss i j) → rs ≡ ss

-- each set of dots has one
abbrev pub found : (ℕ → ℕ → Bool) → ℕ → ℕ → List Rect
found f wide high = flat 0 [] (canon f wide high) 4096

abbrev pub Found : Type 0
Found =
    (f : ℕ → ℕ → Bool) (wide high : ℕ) → wide ≤ 4096 → high ≤ 4096 → Canonical (found f wide high) × ((i j : ℕ) → covers (found f wide high) i j ≡ (nat_lt j high && (nat_lt i wide && f i j)))

-- and few boxes, if it changes at few lines
abbrev pub Few : Type 0
Few = (rs : List Rect) (X Y : List ℕ) → Canonical rs → Lines X Y rs → 2 * length rs ≤ length Y * length X

-- a box is a region
abbrev pub BoxIs : Type 0
BoxIs = (r : Rect) → Proper r → Canonical (r ∷ [])

-- the boxes of a region do not overlap: how many of them have a dot
abbrev pub tally : List Rect → ℕ → ℕ → ℕ
tally [] i j = 0
tally (r ∷ rs) i j = if in_rect r i j then suc (tally rs i j) else tally rs i j

abbrev pub Apart : Type 0
Apart = (rs : List Rect) (i j : ℕ) → Canonical rs → tally rs i j ≤ 1

-- the dots of its boxes are the dots that it covers
abbrev pub Measured : Type 0
Measured = (rs : List Rect) → Canonical rs → area rs ≡ dots_in (covers rs) 4096 4096
