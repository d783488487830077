use Rattle.std.proofs.Common.{◌≡◌, ◌+◌, ◌*◌, length, ◌∙◌, arith}
use Rattle.std.proofs.lemmas.Bool.{le-leb}
use Rattle.std.proofs.lemmas.List.{length-take-le, take_all}
use Rattle.few.specs.Held.{held}
use Rattle.protocol.proofs.Rows.{numbers-one}
use Rattle.desktop.proofs.person.whole.Goals as goal

pub returns : goal.returns
returns c =
    let f = c.args.clip.now.bytes in
    let l : length (held f) ≡ f.len = length-take-le f.len f.items (omega (arith, f.most, f.whole)) in
    record {
      value = numbers-one f.len (held f) (omega arith) ∙ take_all f.len (held f) (omega arith);
      there = le-leb (0 + 1 * f.len) (length (held f)) (omega arith);
    }
