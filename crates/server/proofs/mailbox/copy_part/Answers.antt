use Rattle.std.proofs.Common.{◌≡◌, ◌-◌, length, take, drop, arith}
use Rattle.std.proofs.lemmas.List.{length-take, length-drop}
use Rattle.protocol.proofs.Adding.{added-part}
use Rattle.server.proofs.mailbox.copy_part.Goals as goal

pub returns : goal.returns
returns c =
    let n = c.args.to - c.args.from in
    let s = drop c.args.from c.args.words.now in
    let l : length (take n s) ≡ n = simp (length-take, length-drop) (omega arith) in
    added-part c.args.at n _ _ (take n s) _ (omega arith) l (omega arith) c.copy_from_slice.ensures.after
