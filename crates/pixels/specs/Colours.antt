-- Colours in bytes.
use Rattle.std.specs.Prelude.{ℕ, ◌+◌, ◌*◌, Bool, ◌&&◌, List, map, slice_index}
use Rattle.std.specs.List.{range_with_len}
use Rattle.pixels.specs.declared.Picture.{Picture}
use Rattle.pixels.specs.declared.Span.{Span}
use Rattle.pixels.specs.Runs.{run_fits}
use Rattle.pixels.specs.Pictures.{fits, area_of}

-- the colour in the four bytes from k on, the low one first
abbrev pub colour_at : List ℕ → ℕ → ℕ
colour_at bytes k = slice_index bytes k + 256 * slice_index bytes (k + 1) + 65536 * slice_index bytes (k + 2) + 16777216 * slice_index bytes (k + 3)

-- the `count` colours from byte `from` on
unfoldable pub colours_in : List ℕ → ℕ → ℕ → List ℕ
colours_in bytes from count = map (λ k. colour_at bytes (from + 4 * k)) (range_with_len 0 count)

-- a span of a picture in a slice of `len` dots, and as many colours from byte `from` on of `bytes`
abbrev pub put_fits : Picture → Span → ℕ → ℕ → ℕ → Bool
put_fits p s len from bytes = fits p (area_of s) len && run_fits from (4 * s.wide) bytes
