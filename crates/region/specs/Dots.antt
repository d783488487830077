-- How many dots a set has.
use Rattle.std.specs.Prelude.{◌≡◌, ℕ, zero, suc, ◌+◌, ◌-◌, ◌*◌, Bool, true, false, List, [], ◌∷◌, Some, None, Option}
use Rattle.geometry.specs.declared.Rect.{Rect}
use Rattle.region.specs.Flat.{covers, Canonical, Proper}

abbrev pub bit : Bool → ℕ
bit true = 1
bit false = 0

-- the sum of g over the n numbers from 0 on
unfoldable pub total : (ℕ → ℕ) → ℕ → ℕ
total g zero = 0
total g (suc n) = total g n + g n

-- how many dots of a screen are in a set
abbrev pub dots_in : (ℕ → ℕ → Bool) → ℕ → ℕ → ℕ
dots_in f wide high = total (λ j. total (λ i. bit (f i j)) wide) high

-- the dots of each box, taken together
abbrev pub area : List Rect → ℕ
area [] = 0
area (r ∷ rs) = (r.right - r.left) * (r.below - r.top) + area rs

-- each box has dots and lies on the desk
abbrev pub EachProper : List Rect → Type 0
EachProper [] = Unit {0}
EachProper (r ∷ rs) = Proper r × EachProper rs

-- the answer of a count: the dots of a region, or none where the boxes are no region
abbrev pub Counts : List Rect → Option ℕ → Type 0
Counts A None = Canonical A → ⊥
Counts A (Some n) = Canonical A × (n ≡ dots_in (covers A) 4096 4096)

-- whether no box has a dot
abbrev pub NoDots : Bool → List Rect → Type 0
NoDots true A = (i j : ℕ) → covers A i j ≡ false
NoDots false A = (i : ℕ) × (j : ℕ) × (covers A i j ≡ true)
