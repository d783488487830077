use Rattle.std.proofs.Common.{rules}
use Rattle.std.proofs.lemmas.Int.{to_z-of_z}
use Rattle.stack.proofs.Fronts.{numbered-by}
use Rattle.stack.proofs.state.Stack.front_at.Goals as goal

pub returns : goal.returns
returns c =
    let fx = c.ranges.x in
    let fy = c.ranges.y in
    let e = simp to_z-of_z at c.front_window.ensures in
    numbered-by c.args.self.now c.args.x c.args.y c.front_window.result c.map.result _ e c.map.ensures.cases (λ f n k. search rules)
