use Rattle.std.proofs.Common.{refl, subst}
use Rattle.model.specs.Desk as desk
use Rattle.layout.specs.State.{desk_of}
use Rattle.damage.specs.Hurts.{Placing}
use Rattle.damage.proofs.hurt.about.Goals as goal

pub returns : goal.returns
returns c =
    record {
      how = refl;
      window = refl;
      area = λ p. subst (λ (v : desk.Window). Placing v c.args.patch.x c.args.patch.y c.args.patch.wide c.args.patch.high c.placed.result) (c.window.ensures.value (desk_of c.args.before.now p) p refl) (c.placed.ensures p);
    }
