-- What a request to make a window asks.
use Rattle.std.specs.Prelude.{ℕ, ◌+◌, ◌*◌, Bool, ◌&&◌, Some, None, Option, nat_le, nat_lt}
use Rattle.model.specs.Desk.{Sizes}
use Rattle.stack.specs.declared.state.Window.{Window}

-- a program c that there is, a number n that is free, sides in their range, and room for the picture behind `used` dots
abbrev pub makeable : Sizes → ℕ → ℕ → ℕ → ℕ → ℕ → Bool
makeable z c n w h used =
    (nat_lt c z.programs && nat_lt n z.windows) && ((nat_le 1 w && nat_le w z.side) && ((nat_le 1 h && nat_le h z.side) && nat_le (used + w * h) z.dots))

-- where a window's picture begins
abbrev pub start_of : Option Window → ℕ
start_of None = 0
start_of (Some w) = w.at
