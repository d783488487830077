use Rattle.std.proofs.Common.{sym, ◌∙◌}
use Rattle.few.specs.Held.{held}
use Rattle.stack.specs.View.{windows_of, order_of}
use Rattle.layout.proofs.Empty.{bare-desk, fresh-packed, fresh-good}
use Rattle.layout.proofs.state.State.new.Goals as goal

pub returns : goal.returns
returns c =
    let s = c.new-2.result in
    let n = c.args.windows in
    let e = c.new-2.ensures in
    let k = fresh-packed n _ e.slots in
    record {
      desk = λ z q p. bare-desk z n (windows_of s p) (order_of s) (held c.new.result) q (e.windows p) e.order c.new.ensures;
      good = λ z size q f r. fresh-good z _ size f r (e.limit ∙ sym q) k (λ p. bare-desk z n (windows_of s p) (order_of s) (held c.new.result) q (e.windows p) e.order c.new.ensures);
      packed = k;
      limit = e.limit;
    }
