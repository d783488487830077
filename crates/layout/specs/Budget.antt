-- What the lent slices have to have, in elements, and what is refused for want of it. An element of pictures, work and sent is a word of 32 bits,
-- one of words is a byte.
use Rattle.std.specs.Prelude.{◌≡◌, ℕ, ◌+◌, ◌*◌, Some, None, Ok, Err, Option, Result, nat_le}
use Rattle.model.specs.Basics.{pick}
use Rattle.model.specs.Desk.{Sizes}
use Rattle.layout.specs.Sizes.{size_refusal}
use Rattle.layout.specs.Refusals.{numbered_one}
use Rattle.layout.specs.declared.sizes.Refusal.{Refusal}
use Rattle.layout.specs.declared.budget.Budget.{Budget}
use Rattle.layout.specs.declared.budget.Lent.{Lent}
use Rattle.layout.specs.declared.budget.Used.{Used}

-- how many boxes are kept for a window
abbrev pub boxes : Sizes → ℕ
boxes z = (2 * z.windows + 6) * (2 * z.windows + 6)

-- the head of the work, and two words for each box of each window
abbrev pub work_room : Sizes → ℕ
work_room z = 2048 + z.windows * (2 * boxes z)

-- what an event may send: every dot of the screen, and four words for each of as many boxes
abbrev pub sent_room : Sizes → ℕ
sent_room z = z.wide * z.high + 4 * boxes z

-- what an event may tell
abbrev pub words_room : ℕ
words_room = 8192

pub record BudgetOf (z : Sizes) (b : Budget) : Type 0 where
  pub fits : size_refusal z ≡ None
  pub pictures : b.pictures ≡ z.dots
  pub work : b.work ≡ work_room z
  pub sent : b.sent ≡ sent_room z
  pub words : b.words ≡ words_room

abbrev pub Budgeted : Sizes → Result Budget Refusal → Type 0
Budgeted z (Ok b) = BudgetOf z b
Budgeted z (Err e) = size_refusal z ≡ Some (numbered_one e)

-- the first of two refusals, where there is one
abbrev pub first : Option (ℕ × ℕ) → Option (ℕ × ℕ) → Option (ℕ × ℕ)
first (Some r) s = Some r
first None s = s

-- a lent slice that has fewer elements than it needs
abbrev pub short : ℕ → ℕ → ℕ → Option (ℕ × ℕ)
short slice needs has = pick (nat_le needs has) None (Some (2, slice))

-- why there is no start: the first size that is out of its range, then pictures, then work
unfoldable pub start_refusal : Sizes → ℕ → ℕ → Option (ℕ × ℕ)
start_refusal z pictures work = first (size_refusal z) (first (short 0 z.dots pictures) (short 1 (work_room z) work))

-- why the next event of a call is refused: as at the start, then what is sent and told by this event and those before it
unfoldable pub event_refusal : Sizes → Lent → Used → Option (ℕ × ℕ)
event_refusal z lent used =
    first (start_refusal z lent.pictures lent.work)
    (first (short 2 (used.sent + sent_room z) lent.sent) (short 3 (used.words + words_room) lent.words))
