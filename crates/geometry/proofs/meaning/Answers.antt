use Rattle.geometry.proofs.Spans.{is-box, is-window, same-rect}
use Rattle.geometry.proofs.meaning.Goals as goal

pub returns : goal.returns
returns c = record { boxed = is-box; windows = is-window; same = same-rect }
