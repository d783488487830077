-- Pictures that lie in one slice of dots, each row by row.
use Rattle.std.specs.Prelude.{◌≡◌, ℕ, ◌+◌, ◌-◌, ◌*◌, ◌<◌, ◌≤◌, Bool, ◌&&◌, ◌⊎◌, List, length, nat_le, nat_lt, slice_index}
use Rattle.model.specs.Basics.{pick, in_box}
use Rattle.pixels.specs.Runs.{run_fits}
use Rattle.pixels.specs.declared.Picture.{Picture}
use Rattle.pixels.specs.declared.Area.{Area}
use Rattle.pixels.specs.declared.Span.{Span}

-- where the dot i, j lies of a picture that starts at `at` and has rows of `wide` dots
abbrev pub place : ℕ → ℕ → ℕ → ℕ → ℕ
place at wide i j = at + j * wide + i

-- the dots of the picture that starts at `at`, of `high` rows of `wide` dots; outside of the picture they are 0
unfoldable pub dots_of : List ℕ → ℕ → ℕ → ℕ → ℕ → ℕ → ℕ
dots_of p at wide high i j = pick (nat_lt i wide && nat_lt j high) (slice_index p (place at wide i j)) 0

-- the picture's dots, all of them, are among the first `len` of the slice
abbrev pub lies_in : Picture → ℕ → Bool
lies_in p len = nat_le (p.at + p.wide * p.high) len

-- the area is part of the picture
abbrev pub has_area : Picture → Area → Bool
has_area p a = nat_le (a.x + a.wide) p.wide && nat_le (a.y + a.high) p.high

-- a part of a row as a box
abbrev pub area_of : Span → Area
area_of s = record { x = s.x; y = s.y; wide = s.wide; high = 1 }

-- the box of the area's size at a, b
abbrev pub target_of : Area → ℕ → ℕ → Area
target_of s a b = record { x = a; y = b; wide = s.wide; high = s.high }

-- the area is part of a picture that lies in the slice
abbrev pub fits : Picture → Area → ℕ → Bool
fits p a len = lies_in p len && has_area p a

-- the same of the area and of the box of its size at a, b
abbrev pub copy_fits : Picture → Area → ℕ → ℕ → ℕ → Bool
copy_fits p s a b len = fits p s len && has_area p (target_of s a b)

-- a span of a picture that lies in a slice of `len` dots, and room for it from `to` on in one of `room`
abbrev pub out_fits : Picture → Span → ℕ → ℕ → ℕ → Bool
out_fits p s len to room = fits p (area_of s) len && run_fits to s.wide room

-- What paint makes of a picture's dots d, in the desk's own words: an area is one colour,
abbrev pub filled : Area → ℕ → (ℕ → ℕ → ℕ) → ℕ → ℕ → ℕ
filled s colour d i j = pick (in_box s.x s.y s.wide s.high i j) colour (d i j)

-- a row of colours is put from x, y on,
abbrev pub put_in : ℕ → ℕ → List ℕ → (ℕ → ℕ → ℕ) → ℕ → ℕ → ℕ
put_in x y colours d i j = pick (in_box x y (length colours) 1 i j) (slice_index colours (i - x)) (d i j)

-- and an area is copied to a, b.
abbrev pub copied : Area → ℕ → ℕ → (ℕ → ℕ → ℕ) → ℕ → ℕ → ℕ
copied s a b d i j = pick (in_box a b s.wide s.high i j) (d (s.x + (i - a)) (s.y + (j - b))) (d i j)

-- the picture's dots have become what `paint` makes of them, and all that lies outside of the picture is as it was
pub record Painted (p : Picture) (paint : (ℕ → ℕ → ℕ) → ℕ → ℕ → ℕ) (old new : List ℕ) : Type 0 where
  pub dots : (i j : ℕ) → dots_of new p.at p.wide p.high i j ≡ paint (dots_of old p.at p.wide p.high) i j
  pub others : (k : ℕ) → (k < p.at) ⊎ (p.at + p.wide * p.high ≤ k) → slice_index new k ≡ slice_index old k
  pub len : length new ≡ length old
