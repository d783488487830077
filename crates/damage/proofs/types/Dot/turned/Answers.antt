use Rattle.std.proofs.Common.{not, ap, ◌∙◌}
use Rattle.damage.proofs.Deciding.{by-number}
use Rattle.damage.proofs.types.Dot.turned.Goals as goal

pub returns : goal.returns
returns c p q = c.ne.ensures ∙ ap not (by-number c.front.result c.front-2.result _ _ (c.front.ensures p) (c.front-2.ensures q))
