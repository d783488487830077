-- Bytes written into a row at a place.
use Rattle.std.specs.Prelude.{◌≡◌, ℕ, ◌+◌, Bool, true, false, ◌&&◌, List, ◌++◌, length, take, drop, Some, None, Option, nat_le}

-- what stood before the place is as it was, then come bs, up to the place `to`, and what stands behind is as it was
pub record Added (at to : ℕ) (bs old new : List ℕ) : Type 0 where
  pub ends : to ≡ at + length bs
  pub front : take to new ≡ take at old ++ bs
  pub rest : drop to new ≡ drop to old

-- bytes bs that could be had are written at a place, and how many there are is answered; if they could not, or there is no room for them, the row is as it was
abbrev pub Wrote : Bool → ℕ → List ℕ → List ℕ → List ℕ → Option ℕ → Type 0
Wrote had at bs old new None = ((had && nat_le (at + length bs) (length old)) ≡ false) × (new ≡ old)
Wrote had at bs old new (Some n) = ((had && nat_le (at + length bs) (length old)) ≡ true) × (n ≡ length bs) × Added at (at + n) bs old new
