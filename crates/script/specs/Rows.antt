-- What a row of bytes says: its events up to the first fault.
use Rattle.std.specs.Prelude.{◌≡◌, ℕ, ◌<◌, ◌≤◌, true, false, List, [], ◌∷◌, length, replicate, Some, None, Ok, Err, Option, slice_index_or}
use Rattle.model.specs.Desk.{Event}
use Rattle.protocol.specs.Fields.{Found}
use Rattle.protocol.specs.Formats.{read_event}

-- the event at a place: of all kinds, and of as many programs as there can be
abbrev pub event_at : List ℕ → ℕ → Found Event
event_at bs k = read_event (λ q. slice_index_or (replicate 13 true) q false) 255 bs k

-- from the place k on the row says these events and is in fault at the place behind them, or nowhere
abbrev pub Reads : List ℕ → ℕ → List Event → Option ℕ → Type 0
Reads bs k [] None = length bs ≤ k
Reads bs k [] (Some j) = (k < length bs) × (event_at bs k ≡ Err j)
Reads bs k (e ∷ es) fault = (k < length bs) × ((to : ℕ) × (event_at bs k ≡ Ok (e, to)) × Reads bs to es fault)
