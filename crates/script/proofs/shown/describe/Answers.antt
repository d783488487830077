use Rattle.std.proofs.Common.{false, [], ◌∷◌, Some, None, slice_index_or, sym, ap, ◌∙◌}
use Rattle.protocol.specs.Formats.{read_event}
use Rattle.protocol.specs.Meaning.{meaning}
use Rattle.script.proofs.shown.describe.Goals as goal

pub loop-at-preserved : goal.loop-at-preserved
loop-at-preserved c =
    λ es fault h. c.loop-at.invariant (meaning c.args.bytes.now c.in-Ok.event ∷ es) fault (c.loop-at-test.true, (c.in-Ok.end, sym (c.in-Ok.ensures.value ∙ ap (λ b. read_event (λ q. slice_index_or b q false) 255 c.args.bytes.now c.loop-at.at) c.all.ensures.each), h))

pub returns-in-Err : goal.returns-in-Err
returns-in-Err c = c.loop-at.invariant [] (Some c.in-Err.fault.place) (c.loop-at-test.true, sym (c.in-Err.ensures.value ∙ ap (λ b. read_event (λ q. slice_index_or b q false) 255 c.args.bytes.now c.loop-at.at) c.all.ensures.each))

pub returns : goal.returns
returns c = c.loop-at.invariant [] None c.loop-at-test.false
