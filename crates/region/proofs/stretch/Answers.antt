use Rattle.std.proofs.Common.{rules}
use Rattle.region.specs.Reader.{stretched_one}
use Rattle.region.specs.Words.{rects}
use Rattle.region.proofs.Walks.{all_zip-map}
use Rattle.region.proofs.stretch.Goals as goal

pub returns : goal.returns
returns c = all_zip-map _ (stretched_one c.args.below) (λ x y h. search rules) (rects c.args.s.now) (rects c.change_boxes.new.s) c.change_boxes.ensures
