-- A reader that goes down a region in canonical form.
use Rattle.std.specs.Prelude.{◌≡◌, ℕ, suc, ◌-◌, ◌<◌, ◌≤◌, false, if◌then◌else◌, List, [], ◌∷◌, map, length, take, drop, ◌==◌}
use Rattle.geometry.specs.declared.Rect.{Rect}
use Rattle.region.specs.declared.Op.{Op}
use Rattle.region.specs.Edges.{Between, Row, inside}
use Rattle.region.specs.Boxes.{edges, across, none, act}
use Rattle.region.specs.Bands.{Change, Bands, row_at, last_row}
use Rattle.region.specs.Flat.{covers, flat, Canonical}

-- the reader stands at the row y, and the boxes above that row are those before p
pub record Rest (a : List Rect) (p y : ℕ) : Type 0 where
  pub t : ℕ
  pub row : List ℕ
  pub bands : List Change
  pub left : drop p a ≡ flat t row bands 4096
  pub began : t ≤ y
  pub good : Row 4096 row
  pub next : Bands (suc y) row bands 4097
  pub ends : last_row row bands ≡ []
  pub dots : (i j : ℕ) → y ≤ j → covers a i j ≡ inside (row_at row bands j) i
  pub within : p ≤ length a

-- the row y is that of the boxes from p up to end, and so are the rows below it up to next
pub record Slab (a : List Rect) (p y end next : ℕ) : Type 0 where
  pub first : p ≤ end
  pub last : end ≤ length a
  pub later : y < next
  pub low : next < none → next ≤ 4096
  pub row : Between 0 (edges (take (end - p) (drop p a))) 4097
  pub dots : (i j : ℕ) → y ≤ j → j < next → covers a i j ≡ across (take (end - p) (drop p a)) i
  pub over : next ≡ none → (i j : ℕ) → y ≤ j → covers a i j ≡ false
  pub stays : (z : ℕ) → y ≤ z → z < next → z ≤ 4096 → Rest a p z
  pub goes : next < none → Rest a end next

-- how many of the first boxes have this top
abbrev pub leading : ℕ → List Rect → ℕ
leading t [] = 0
leading t (r ∷ rs) = if r.top == t then suc (leading t rs) else 0

-- the boxes with another end below
abbrev pub stretched_one : ℕ → Rect → Rect
stretched_one b r = record { left = r.left; top = r.top; right = r.right; below = b }

abbrev pub stretched : ℕ → List Rect → List Rect
stretched b rs = map (stretched_one b) rs

-- what is made of two regions
pub record Combined (op : Op) (a b out : List Rect) (n : ℕ) : Type 0 where
  pub within : n ≤ length out
  pub canonical : Canonical (take n out)
  pub dots : (i j : ℕ) → covers (take n out) i j ≡ act op (covers a i j) (covers b i j)
