use Rattle.std.proofs.Common.{None, ap, ◌∙◌, arith}
use Rattle.std.proofs.lemmas.List.FromFn.{fill_by_all}
use Rattle.stack.specs.View.{slots_of, packed}
use Rattle.stack.proofs.Slots.{length-slots}
use Rattle.layout.specs.Head.{entry_at, table_at}
use Rattle.layout.proofs.Slots.{slots-more}
use Rattle.layout.proofs.table.load_table.Goals as goal

pub loop-n-preserved : goal.loop-n-preserved
loop-n-preserved c =
    let i = c.loop-n.invariant in
    let e = c.set_window.ensures in (
      slots-more (entry_at c.args.head.now.work.now table_at) c.loop-n.n (slots_of c.loop-n.s) _ _ e.slots c.load_entry.ensures (omega (arith, length-slots c.loop-n.s, i.2)) i.0,
      e.order ∙ i.1,
      e.limit ∙ i.2,
    )

pub returns : goal.returns
returns c =
    let i = c.loop-n.invariant in
    let e = c.pack.ensures in
    record {
      slots = e.slots ∙ ap (packed 0) (fill_by_all (entry_at c.args.head.now.work.now table_at) (slots_of c.loop-n.s) c.args.count None (length-slots c.loop-n.s ∙ i.2) (λ k h. i.0 k (omega arith)));
      order = e.order ∙ i.1;
      limit = e.limit ∙ i.2;
    }
