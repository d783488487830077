-- Bytes that are added are words that are sent, with nothing changed behind them.
use Rattle.std.proofs.Common.{◌≡◌, ℕ, List, length, drop, sym, ap, ◌∙◌}
use Rattle.std.proofs.lemmas.List.{drop-drop}
use Rattle.protocol.specs.Added.{Added}
use Rattle.damage.specs.Encode.{Sent}

-- what is added is written, and the rest is as it was
pub added-sent : (at to : ℕ) (bs old new : List ℕ) → Added at to bs old new → Sent at to bs old new
added-sent at to bs old new a = record { ends = a.ends; front = a.front }

pub sent-added : (at to : ℕ) (bs old new : List ℕ) → Sent at to bs old new → drop to new ≡ drop to old → Added at to bs old new
sent-added at to bs old new a r = record { ends = a.ends; front = a.front; rest = r }

pub rest_more : (at to : ℕ) (bs old mid new : List ℕ) → Added at to bs mid new → drop at mid ≡ drop at old → drop to new ≡ drop to old
rest_more at to bs old mid new a r =
    a.rest ∙ rw a.ends (sym (drop-drop (length bs) at mid) ∙ ap (drop (length bs)) r ∙ drop-drop (length bs) at old)
