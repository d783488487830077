-- Runs of elements that are written in a slice.
use Rattle.std.specs.Prelude.{◌≡◌, ℕ, ◌+◌, Bool, ◌&&◌, List, length, nat_le, slice_index}
use Rattle.model.specs.Basics.{pick, in_run}

-- the n elements from lo on have become what f says of their places; every other element is as it was
pub record Changed (lo n : ℕ) (f : ℕ → ℕ) (old new : List ℕ) : Type 0 where
  pub places : (k : ℕ) → slice_index new k ≡ pick (in_run lo n k) (f k) (slice_index old k)
  pub len : length new ≡ length old

-- n elements from lo on are there in a slice of `len`
abbrev pub run_fits : ℕ → ℕ → ℕ → Bool
run_fits lo n len = nat_le (lo + n) len

-- both runs are there
abbrev pub shift_fits : ℕ → ℕ → ℕ → ℕ → Bool
shift_fits from to n len = run_fits from n len && run_fits to n len
