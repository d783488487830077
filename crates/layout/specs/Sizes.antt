-- The sizes of a desk and their ranges.
use Rattle.std.specs.Prelude.{ℕ, Bool, ◌&&◌, Some, None, Option, nat_le}
use Rattle.model.specs.Basics.{pick}
use Rattle.model.specs.Desk as desk
use Rattle.layout.specs.declared.sizes.Sizes.{Sizes}

-- kinds of events that are there: all thirteen
abbrev pub built : ℕ → Bool
built k = nat_le k 12

abbrev pub sizes_of : Sizes → desk.Sizes
sizes_of z =
    record { wide = z.wide; high = z.high; windows = z.windows; programs = z.programs; side = z.side; dots = z.dots; built = built }

abbrev pub in_range : ℕ → ℕ → ℕ → Bool
in_range low high n = nat_le low n && nat_le n high

-- the first size that is out of its range, as a refusal's number and place
abbrev pub size_refusal : desk.Sizes → Option (ℕ × ℕ)
size_refusal z =
    pick (in_range 1 4096 z.wide)
    (pick (in_range 1 4096 z.high)
    (pick (in_range 0 255 z.windows)
    (pick (in_range 1 64 z.programs)
    (pick (in_range 0 4096 z.side)
    (pick (in_range 0 16777216 z.dots) None (Some (1, 5)))
    (Some (1, 4)))
    (Some (1, 3)))
    (Some (1, 2)))
    (Some (1, 1)))
    (Some (1, 0))
