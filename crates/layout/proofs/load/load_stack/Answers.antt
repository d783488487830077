use Rattle.std.proofs.Common.{sym, ◌∙◌, arith}
use Rattle.layout.proofs.Checked.{entries_by, dots-by, windows-by, table-by, not-entries, not-order, not_area, stacked}
use Rattle.layout.proofs.load.load_stack.Goals as goal

pub returns-then-not-entries_good : goal.returns-then-not-entries_good
returns-then-not-entries_good c =
    let work = c.args.head.now.work.now in
    not-entries work (sym (entries_by work c.args.z c.requires.sizes) ∙ sym c.entries_good.ensures ∙ c.if-not-entries_good.true)

pub returns-then-not-order_good : goal.returns-then-not-order_good
returns-then-not-order_good c =
    let work = c.args.head.now.work.now in
    let s = record c.load_table-s.result { order = c.load_order-s.result } in
    let t = c.load_table-s.ensures in
    not-order work s (table-by work c.args.z s c.requires.sizes t.slots) c.load_order-s.ensures (sym c.order_good.ensures ∙ c.if-not-order_good.true)

pub returns-then-area_used-z : goal.returns-then-area_used-z
returns-then-area_used-z c =
    let work = c.args.head.now.work.now in
    let s = record c.load_table-s.result { order = c.load_order-s.result } in
    let t = c.load_table-s.ensures in
    not_area work s (table-by work c.args.z s c.requires.sizes t.slots) c.load_order-s.ensures c.area_used.result c.area_used.ensures.value
    (omega (arith, c.if-area_used-z.true, dots-by work c.args.z c.requires.sizes))

pub returns : goal.returns
returns c =
    let work = c.args.head.now.work.now in
    let t = c.load_table-s.ensures in
    stacked work _ (table-by work c.args.z c.load_table-s.result c.requires.sizes t.slots) c.load_order-s.ensures c.area_used.result c.area_used.ensures.value
    (omega (arith, c.if-area_used-z.false, dots-by work c.args.z c.requires.sizes)) (omega (arith, c.if-count-gt255.false))
    (sym (entries_by work c.args.z c.requires.sizes) ∙ sym c.entries_good.ensures ∙ c.if-not-entries_good.false)
    (sym c.order_good.ensures ∙ c.if-not-order_good.false) (t.limit ∙ windows-by work c.args.z c.requires.sizes)
