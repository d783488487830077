use Rattle.std.proofs.Common.{sym, ap, ◌∙◌}
use Rattle.protocol.specs.Formats.{read_event}
use Rattle.layout.specs.Sizes.{sizes_of}
use Rattle.server.specs.Course.{next, unless}
use Rattle.server.proofs.call.next_event.Goals as goal

pub returns-in-Some : goal.returns-in-Some
returns-in-Some c go =
    ap (λ w. unless c.args.at w (next c.args.at go (read_event (sizes_of c.args.z).built c.args.z.programs c.args.call.now c.args.at))) (sym c.in-Some.ensures)

pub returns-in-Ok : goal.returns-in-Ok
returns-in-Ok c =
    let r = c.in-Ok.ensures in
    record {
      room = sym c.in_default.ensures;
      value = r.value ∙ ap (λ f. read_event f c.args.z.programs c.args.call.now c.args.at) c.all.ensures.value;
      had = r.had;
      onward = r.ends.0;
      within = r.ends.1;
    }

pub returns-in-Err : goal.returns-in-Err
returns-in-Err c go =
    let r = c.in-Err.ensures in
    ap (λ w. unless c.args.at w (next c.args.at go (read_event (sizes_of c.args.z).built c.args.z.programs c.args.call.now c.args.at))) (sym c.in_default.ensures)
    ∙ ap (next c.args.at go) (sym (r.value ∙ ap (λ f. read_event f c.args.z.programs c.args.call.now c.args.at) c.all.ensures.value))
