use Rattle.std.proofs.Common.{◌≡◌, pos, rules}
use Rattle.std.specs.Option.{option_map}
use Rattle.std.proofs.lemmas.Int.{to_z_pos}
use Rattle.stack.specs.Found.{Found}
use Rattle.damage.proofs.Deciding.{fronting}
use Rattle.damage.proofs.types.Dot.front_window.Goals as goal

pub returns : goal.returns
returns c =
    let i = c.args.self.across in
    let j = c.args.self.down in
    let f : Found c.args.s.now.stack (pos c.args.self.i) (pos c.args.self.j) c.front_window.result = simp to_z_pos at c.front_window.ensures in
    let e : c.map.result ≡ option_map (λ t. t.1) c.front_window.result = search rules in
    rw e (fronting c.args.s.now c.args.self.i c.args.self.j c.front_window.result f)
