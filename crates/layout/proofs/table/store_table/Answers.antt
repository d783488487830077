use Rattle.std.proofs.Common.{◌+◌, ◌*◌, ap, ◌∙◌, inl, inr, arith, below_more}
use Rattle.layout.specs.Head.{flagged, table_at}
use Rattle.layout.proofs.Words.{entry-same}
use Rattle.layout.proofs.table.store_table.Goals as goal

pub loop-n-preserved : goal.loop-n-preserved
loop-n-preserved c =
    let i = c.loop-n.invariant in
    let n = c.loop-n.n in
    let e = c.store_entry.ensures in
    let at = table_at in (
      below_more _ n
          (λ k h. entry-same c.store_entry.new.work c.loop-n.work at k (e.rest (at + 3 * k) (inl (omega arith))) (e.rest (at + 3 * k + 1) (inl (omega arith))) (e.rest (at + 3 * k + 2) (inl (omega arith))) ∙ i.0 k h)
          e.window,
      below_more _ n (λ k h. ap flagged (e.rest (at + 3 * k) (inl (omega arith))) ∙ i.1 k h) e.flags,
      λ k o. e.rest k (elim o [ inl h ↦ inl (omega arith) | inr h ↦ inr (omega arith) ]) ∙ i.2 k o,
    )

pub returns : goal.returns
returns c =
    let i = c.loop-n.invariant in
    record { table = λ k h. i.0 k (omega arith); flags = λ k h. i.1 k (omega arith); rest = λ k o. i.2 k o }
