use Rattle.std.proofs.Common.{◌≡◌, length, rules}
use Rattle.layout.proofs.Storing.{stored}
use Rattle.layout.proofs.store.store.Goals as goal

pub returns : goal.returns
returns c =
    let long : length c.store_front.new.work ≡ length c.args.work.now = search rules in
    let t = c.store_table.ensures in
    let b = c.store_bytes.ensures in
    let o = c.store_bytes-2.ensures in
    let f = c.store_front.ensures in
    stored c.args.z c.args.s.now c.as_slice.result.now c.as_slice-2.result.now c.args.work.now c.store_table.new.work c.store_bytes.new.work c.store_bytes-2.new.work c.store_front.new.work
    c.front_words-front.result c.front_words-front.ensures long t.table t.flags t.rest c.as_slice.ensures b.bytes b.rest c.as_slice-2.ensures o.bytes o.rest f.here f.rest
