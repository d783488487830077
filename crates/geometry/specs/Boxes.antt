-- Boxes of dots, and which dots lie in them.
use Rattle.std.specs.Prelude.{◌≡◌, ℕ, ◌<◌, ◌≤◌, Bool, true, false, ◌&&◌, ◌⊎◌, ℤ, pos, ◌+ℤ◌, int_le, int_lt, nat_le, nat_lt}
use Rattle.geometry.specs.declared.Rect.{Rect}

-- the dot i, j lies in the box
abbrev pub in_rect : Rect → ℕ → ℕ → Bool
in_rect r i j = (nat_le r.left i && nat_lt i r.right) && (nat_le r.top j && nat_lt j r.below)

-- the dot i, j lies on a screen
abbrev pub on_screen : ℕ → ℕ → ℕ → ℕ → Bool
on_screen across down i j = nat_lt i across && nat_lt j down

-- the dot i, j lies in a window whose upper left dot is at the signed place x, y: the words of `in_window`, with no flags
abbrev pub in_placed : ℤ → ℤ → ℕ → ℕ → ℕ → ℕ → Bool
in_placed x y wide high i j = (int_le x (pos i) && int_lt (pos i) (x +ℤ pos wide)) && (int_le y (pos j) && int_lt (pos j) (y +ℤ pos high))

-- the box with no dots that this crate makes
abbrev pub blank : Rect
blank = record { left = 0; top = 0; right = 0; below = 0 }

-- a box with dots, on a screen
pub record Proper (across down : ℕ) (r : Rect) : Type 0 where
  pub wide : r.left < r.right
  pub on_right : r.right ≤ across
  pub high : r.top < r.below
  pub on_below : r.below ≤ down

-- a box that has dots and lies on a screen, or else the one with no dots: so its dots tell which box it is
abbrev pub Neat : ℕ → ℕ → Rect → Type 0
Neat across down r = (r ≡ blank) ⊎ Proper across down r

-- whether two boxes share a dot
abbrev pub Touching : Bool → Rect → Rect → Type 0
Touching true a b = (i : ℕ) × (j : ℕ) × ((in_rect a i j && in_rect b i j) ≡ true)
Touching false a b = (i j : ℕ) → (in_rect a i j && in_rect b i j) ≡ false

-- whether a box has no dots
abbrev pub Empty : Bool → Rect → Type 0
Empty true r = (i j : ℕ) → in_rect r i j ≡ false
Empty false r = in_rect r r.left r.top ≡ true
