-- Boxes as words of 32 bits: x and y, width and height, the first of each in the lower half, then the dots by rows from above. In memory, low byte first,
-- that is x, y, width and height in two bytes each and the dots in four.
use Rattle.std.specs.Prelude.{◌≡◌, ℕ, ◌+◌, ◌*◌, List, [], ◌∷◌, ◌++◌, length, take}
use Rattle.model.specs.Promise.{Box}

unfoldable pub encode : List Box → List ℕ
encode [] = []
encode (b ∷ bs) = (b.x + 65536 * b.y) ∷ (b.wide + 65536 * b.high) ∷ (b.dots ++ encode bs)

-- words ws stand from the place `at` up to `to`, and what stood before them is as it was. Of what stands behind nothing is said
pub record Sent (at to : ℕ) (ws old new : List ℕ) : Type 0 where
  pub ends : to ≡ at + length ws
  pub front : take to new ≡ take at old ++ ws
