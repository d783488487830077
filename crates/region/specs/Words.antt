-- Boxes in memory: two words a box, left + 65536·top and right + 65536·below.
use Rattle.std.specs.Prelude.{◌≡◌, ℕ, ◌*◌, ◌/◌, ◌%◌, ◌<◌, ◌≤◌, if◌then◌else◌, ◌&&◌, ◌⊎◌, List, [], ◌∷◌, length, take, drop, Some, None, Option, nat_lt}
use Rattle.geometry.specs.declared.Rect.{Rect}
use Rattle.geometry.specs.Boxes.{in_rect}
use Rattle.region.specs.declared.Op.{Op}
use Rattle.region.specs.declared.Boxes.{Boxes}
use Rattle.region.specs.Boxes.{act}
use Rattle.region.specs.Flat.{covers, Canonical}
use Rattle.region.specs.Lines.{Roomy}

abbrev pub unpacked : ℕ → ℕ → Rect
unpacked w v = record { left = w % 65536; top = w / 65536; right = v % 65536; below = v / 65536 }

-- the boxes of some words; an odd last word is none
abbrev pub rects : List ℕ → List Rect
rects [] = []
rects (w ∷ []) = []
rects (w ∷ v ∷ ws) = unpacked w v ∷ rects ws

-- the boxes that a walk over some words has left
abbrev pub boxes_left : Boxes → List Rect
boxes_left b = rects b.words.now

-- the boxes, so many, that lie from the word `at` on
abbrev pub boxes_at : List ℕ → ℕ → ℕ → List Rect
boxes_at ws at n = rects (take (2 * n) (drop at ws))

-- the first n boxes of the words `out` are what op makes of A and B
pub record Makes (op : Op) (A B : List Rect) (out : List ℕ) (n : ℕ) : Type 0 where
  pub within : 2 * n ≤ length out
  pub canonical : Canonical (rects (take (2 * n) out))
  pub dots : (i j : ℕ) → covers (rects (take (2 * n) out)) i j ≡ act op (covers A i j) (covers B i j)

-- the answer of an operation, with room for so many boxes, and what `out` then holds: boxes that are made of two regions,
-- or none, where A or B is no region or there was too little room for the lines at which they change
abbrev pub Combines : Op → List Rect → List Rect → ℕ → List ℕ → Option ℕ → Type 0
Combines op A B room out None = Canonical A → Canonical B → Roomy A B room → ⊥
Combines op A B room out (Some n) = (Canonical A × Canonical B) × Makes op A B out n

-- the boxes of what lies in one box: that box, or none
abbrev pub one : Rect → List Rect
one r = if nat_lt r.left r.right && nat_lt r.top r.below then r ∷ [] else []

-- the first n boxes of the words `after` are a region that covers one box; the words behind are as before
pub record Boxed (r : Rect) (before after : List ℕ) (n : ℕ) : Type 0 where
  pub within : 2 * n ≤ length after
  pub are : rects (take (2 * n) after) ≡ one r
  pub canonical : Canonical (rects (take (2 * n) after))
  pub dots : (i j : ℕ) → covers (rects (take (2 * n) after)) i j ≡ in_rect r i j
  pub past : drop (2 * n) after ≡ drop (2 * n) before

-- the answer to a box that is written as a region: none where it has dots, and passes the desk or finds no room
abbrev pub BoxesOne : Rect → List ℕ → List ℕ → Option ℕ → Type 0
BoxesOne r before after None = (after ≡ before) × (r.left < r.right) × (r.top < r.below) × ((4096 < r.right) ⊎ (4096 < r.below) ⊎ (length before < 2))
BoxesOne r before after (Some n) = Boxed r before after n
