-- Boxes moved across and down.
use Rattle.std.specs.Prelude.{◌≡◌, ℕ, suc, ◌+◌, ◌-◌, ◌*◌, ◌≤◌, min, Bool, ◌&&◌, List, [], ◌∷◌, map, length, take, ℤ, pos, negsuc, ◌-ℤ◌, Some, None, Option, int_le, nat_le}
use Rattle.std.specs.Int.Signed.{mag}
use Rattle.geometry.specs.Boxes.{on_screen}
use Rattle.geometry.specs.declared.Rect.{Rect}
use Rattle.region.specs.Flat.{covers, Canonical}
use Rattle.region.specs.Lines.{Lines}
use Rattle.region.specs.Words.{rects}

-- r to the right, and l to the left again; d down, and u up again
abbrev pub shifted_one : ℕ → ℕ → ℕ → ℕ → Rect → Rect
shifted_one r l d u b = record { left = b.left + r - l; top = b.top + d - u; right = b.right + r - l; below = b.below + d - u }

abbrev pub shifted : ℕ → ℕ → ℕ → ℕ → List Rect → List Rect
shifted r l d u bs = map (shifted_one r l d u) bs

-- each box stays on the desk
abbrev pub Stays : ℕ → ℕ → ℕ → ℕ → List Rect → Type 0
Stays r l d u [] = Unit {0}
Stays r l d u (b ∷ bs) = ((l ≤ b.left + r) × (b.right + r ≤ 4096 + l) × (u ≤ b.top + d) × (b.below + d ≤ 4096 + u) × (b.left ≤ b.right) × (b.top ≤ b.below)) × Stays r l d u bs

-- what the moved boxes cover
abbrev pub Shifts : ℕ → ℕ → ℕ → ℕ → List Rect → List Rect → Type 0
Shifts r l d u before after = (i j : ℕ) → covers after i j ≡ ((nat_le r (i + l) && nat_le d (j + u)) && covers before (i + l - r) (j + u - d))

-- a signed distance as two numbers: so far forth, or so far back
abbrev pub steps_forth : ℤ → ℕ
steps_forth (pos n) = n
steps_forth (negsuc n) = 0

abbrev pub steps_back : ℤ → ℕ
steps_back (pos n) = 0
steps_back (negsuc n) = suc n

-- the dots that come to lie on a screen, when all go so far to the right and to the left, down and up
abbrev pub coming : ℕ → ℕ → ℕ → ℕ → ℕ → ℕ → Rect
coming r l d u across down =
    record { left = min l 4096; top = min u 4096; right = min (min across 4096 + l - r) 4096; below = min (min down 4096 + u - d) 4096 }

-- the dot i, j is one of A that was moved by dx and dy
abbrev pub moved_has : List Rect → ℤ → ℤ → ℕ → ℕ → Bool
moved_has A dx dy i j = (int_le dx (pos i) && int_le dy (pos j)) && covers A (mag (pos i -ℤ dx)) (mag (pos j -ℤ dy))

-- the first n boxes of the words are the region A, moved and clipped to a screen
pub record Moved (A : List Rect) (dx dy : ℤ) (across down : ℕ) (out : List ℕ) (n : ℕ) : Type 0 where
  pub within : 2 * n ≤ length out
  pub canonical : Canonical (rects (take (2 * n) out))
  pub dots : (i j : ℕ) → covers (rects (take (2 * n) out)) i j ≡ (on_screen (min across 4096) (min down 4096) i j && moved_has A dx dy i j)

-- the answer of a move: none where A is no region, or there was too little room for the lines at which it changes and those of the screen
abbrev pub Moves : List Rect → ℤ → ℤ → ℕ → ℕ → ℕ → List ℕ → Option ℕ → Type 0
Moves A dx dy across down room out None = Canonical A → (X Y : List ℕ) → Lines X Y A → (length X + 2) * (length Y + 4) ≤ 2 * room → ⊥
Moves A dx dy across down room out (Some n) = Canonical A × Moved A dx dy across down out n
