-- A row of boxes in memory, and the set of numbers across that it covers.
use Rattle.std.specs.Prelude.{◌≡◌, ℕ, ◌/◌, ◌%◌, Bool, false, if◌then◌else◌, not, ◌&&◌, ◌||◌, List, [], ◌∷◌, ◌==◌, nat_le, nat_lt, slice_index_or, slice_set}
use Rattle.geometry.specs.declared.Rect.{Rect}
use Rattle.geometry.specs.Boxes.{blank}
use Rattle.region.specs.declared.Op.{Op}
use Rattle.region.specs.declared.Op.TheVariants.{Join, Meet, Cut}

-- the places where a row of boxes begins and ends
abbrev pub edges : List Rect → List ℕ
edges [] = []
edges (r ∷ rs) = r.left ∷ r.right ∷ edges rs

-- whether a box of the row has the column i
abbrev pub across : List Rect → ℕ → Bool
across [] i = false
across (r ∷ rs) i = (nat_le r.left i && nat_lt i r.right) || across rs i

abbrev pub act : Op → Bool → Bool → Bool
act Join a b = a || b
act Meet a b = a && b
act Cut a b = a && not b

-- every box has these rows
abbrev pub Rows : ℕ → ℕ → List Rect → Type 0
Rows t b [] = Unit {0}
Rows t b (r ∷ rs) = (r.top ≡ t) × (r.below ≡ b) × Rows t b rs

-- the edge after the last
abbrev pub none : ℕ
none = 65535

-- the boxes once x is written as the n-th edge
abbrev pub placed : List Rect → ℕ → ℕ → ℕ → ℕ → List Rect
placed out n x t b =
    slice_set out (n / 2) (if n % 2 == 0 then record { left = x; top = t; right = none; below = b } else record { left = (slice_index_or out (n / 2) blank).left; top = t; right = x; below = b })
