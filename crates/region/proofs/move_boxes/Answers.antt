use Rattle.std.proofs.Common.{rules}
use Rattle.region.specs.Words.{rects}
use Rattle.region.proofs.Shifting.{each-moved}
use Rattle.region.proofs.move_boxes.Goals as goal

pub returns : goal.returns
returns c = each-moved _ _ _ _ _ (λ x y h s. search rules) (rects c.args.s.now) (rects c.change_boxes.new.s) c.requires c.change_boxes.ensures
