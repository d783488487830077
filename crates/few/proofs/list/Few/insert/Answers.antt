use Rattle.std.proofs.Common.{◌≡◌, ◌≤◌, ◌<◌, length, ◌∷◌, ◌++◌, take, drop, ap, ◌∙◌, sym, arith, rules}
use Rattle.std.proofs.lemmas.List.{take-take}
use Rattle.few.proofs.Inserting.{put-between}
use Rattle.few.proofs.list.Few.insert.Goals as goal

pub returns-clause-items : goal.returns-clause-items
returns-clause-items g c =
    let s = c.args.self.now in
    let k = c.args.k in
    let low : k ≤ s.len = omega arith in
    let whole : length s.items ≡ g.row.N = search rules in
    let most : s.len ≤ g.row.N = search rules in
    let room : s.len < length s.items = omega arith in
    put-between s.items c.copy_within.new.self s.len k c.args.x low room c.copy_within.ensures.len c.copy_within.ensures.by_index.0 c.copy_within.ensures.by_index.1 ∙
    ap (λ t. t ++ c.args.x ∷ drop k (take s.len s.items)) (sym (take-take k s.len s.items low))
