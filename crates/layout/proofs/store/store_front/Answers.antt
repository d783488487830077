use Rattle.std.proofs.Common.{◌-◌, ◌++◌, length, get_or, ap, ◌∙◌}
use borrow.Rule.Slice.PartMut.{post_of}
use Rattle.std.proofs.lemmas.List.{get_or_append_left}
use Rattle.layout.proofs.Packs.{behind-front}
use Rattle.layout.proofs.store.store_front.Goals as goal

pub returns : goal.returns
returns c =
    let f = c.args.front.now in
    let w = c.args.work.now in
    let post = post_of 0 (length f - 0) w in
    record {
      here = λ k h. ap (λ us. get_or (us ++ post) k 0) c.copy_from_slice.ensures.after ∙ get_or_append_left f post 0 k h;
      rest = λ k h. ap (λ us. get_or (us ++ post) k 0) c.copy_from_slice.ensures.after ∙ behind-front f w k h c.requires;
    }
