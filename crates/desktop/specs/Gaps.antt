-- Gaps between pictures in one slice of dots, opened and closed.
use Rattle.std.specs.Prelude.{◌≡◌, ℕ, ◌+◌, ◌<◌, List, length, slice_index}

-- `size` dots of 0 now lie at `at`; what lay from there on, up to `used`, lies behind them, and what lay before is as it was
pub record Opened (at size used : ℕ) (old new : List ℕ) : Type 0 where
  pub below : (k : ℕ) → k < at → slice_index new k ≡ slice_index old k
  pub within : (k : ℕ) → k < size → slice_index new (at + k) ≡ 0
  pub behind : (k : ℕ) → at + k < used → slice_index new (at + size + k) ≡ slice_index old (at + k)
  pub len : length new ≡ length old

-- what lay behind the `size` dots at `at`, up to `used`, now lies at `at`, and what lay before is as it was
pub record Closed (at size used : ℕ) (old new : List ℕ) : Type 0 where
  pub below : (k : ℕ) → k < at → slice_index new k ≡ slice_index old k
  pub behind : (k : ℕ) → at + size + k < used → slice_index new (at + k) ≡ slice_index old (at + size + k)
  pub len : length new ≡ length old
