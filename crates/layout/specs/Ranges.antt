-- Sizes in their ranges are those that are not refused.
use Rattle.std.specs.Prelude.{◌≡◌, None}
use Rattle.model.specs.Desk.{Sizes}
use Rattle.model.specs.Promise.{FitsSizes}
use Rattle.layout.specs.Sizes.{size_refusal}

unfoldable pub Ranges : Type 0
Ranges = (z : Sizes) → (size_refusal z ≡ None → FitsSizes z) × (FitsSizes z → size_refusal z ≡ None)
