use Rattle.std.proofs.Common.{◌+◌, ◌*◌, ap, ◌∙◌}
use Rattle.layout.specs.Head.{flagged, table_at}
use Rattle.layout.proofs.Words.{put3-0, put3-1, put3-2, put3-other}
use Rattle.layout.proofs.entry.store_entry.Goals as goal

pub returns : goal.returns
returns c =
    let xs = c.args.work.now in
    let k = table_at + 3 * c.args.n in
    let r = c.pack-e.result in
    let e = put3-0 xs k r.flags r.place r.sides c.requires in
    record {
      window = rw (e, put3-1 xs k r.flags r.place r.sides c.requires, put3-2 xs k r.flags r.place r.sides c.requires) c.pack-e.ensures.window;
      flags = ap flagged e ∙ c.pack-e.ensures.flags;
      rest = λ m o. put3-other xs k r.flags r.place r.sides m o;
    }
