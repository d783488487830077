use Rattle.std.proofs.Common.{◌-◌, ◌≤◌, length}
use Rattle.layout.specs.Sizes.{sizes_of}
use Rattle.layout.specs.State.{desk_of, Good}
use Rattle.server.proofs.Going.{Going}
use Rattle.server.proofs.call.events.Given as goal

abbrev pub invariant-events : goal.invariant-events
invariant-events l =
    Going (sizes_of l.z) l.call l.lent (desk_of l.initial.s l.initial.pictures) l.initial.sent l.initial.words l.at l.used l.count l.out.sent l.out.words (desk_of l.s l.pictures) l.sent l.words
    × Good (sizes_of l.z) l.s (length l.pictures) × (l.at ≤ length l.call) × (l.count ≤ l.at) × (l.out.sent ≤ l.used.sent) × (l.out.words ≤ l.used.words) × (l.used.sent ≤ length l.initial.sent) × (l.used.words ≤ length l.initial.words)

abbrev pub decreases-events : goal.decreases-events
decreases-events l = length l.call - l.at
