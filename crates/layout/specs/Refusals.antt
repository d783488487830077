-- The number and place of a refusal: 1 and which size, 2 and which lent slice, 3 and the first byte in fault.
use Rattle.std.specs.Prelude.{ℕ, List, ◌++◌, Some, None, Ok, Err, Option, Result, codes, decimal}
use Rattle.layout.specs.declared.sizes.Refusal.{Refusal}
use Rattle.layout.specs.declared.sizes.Refusal.TheVariants as why
use Rattle.layout.specs.declared.sizes.Size as size
use Rattle.layout.specs.declared.sizes.Size.TheVariants.{Wide, High, Windows, Programs, Side, Dots}
use Rattle.layout.specs.declared.sizes.Slice as slice
use Rattle.layout.specs.declared.sizes.Slice.TheVariants.{Pictures, Work, Sent, Words}

abbrev pub size_number : size.Size → ℕ
size_number Wide = 0
size_number High = 1
size_number Windows = 2
size_number Programs = 3
size_number Side = 4
size_number Dots = 5

abbrev pub slice_number : slice.Slice → ℕ
slice_number Pictures = 0
slice_number Work = 1
slice_number Sent = 2
slice_number Words = 3

abbrev pub numbered_one : Refusal → ℕ × ℕ
numbered_one (why.Size which) = (1, size_number which)
numbered_one (why.Short slice) = (2, slice_number slice)
numbered_one (why.Fault place) = (3, place)

abbrev pub numbered : Option Refusal → Option (ℕ × ℕ)
numbered None = None
numbered (Some r) = Some (numbered_one r)

-- what is refused of a result, if it is
abbrev pub refused : {A : Type 0} → Result A Refusal → Option (ℕ × ℕ)
refused (Ok x) = None
refused (Err r) = Some (numbered_one r)

-- a refusal as a line of text
abbrev pub said : ℕ × ℕ → List ℕ
said p = codes "refused " ++ (decimal p.0 ++ (codes " at " ++ decimal p.1))
