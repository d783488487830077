use Rattle.layout.proofs.Checked.{sized}
use Rattle.layout.proofs.load.load_sizes.Goals as goal

pub returns : goal.returns
returns c =
    rw c.then_some.ensures
    (sized c.args.head.now.work.now c.args.pictures c.sizes-z.result c.start_refusal.result c.is_none.result c.sizes-z.ensures c.start_refusal.ensures c.is_none.ensures)
