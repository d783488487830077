use Rattle.std.proofs.Common.{◌+◌, length, sym, ◌∙◌, inl, inr, arith}
use Rattle.std.proofs.lemmas.List.{get_or-set_other, take_all}
use Rattle.layout.specs.Head.{byte_in}
use Rattle.layout.proofs.Packs.{known-front, word_more}
use Rattle.layout.proofs.bytes.store_bytes.Goals as goal

pub loop-n-preserved : goal.loop-n-preserved
loop-n-preserved c =
    let n = c.loop-n.n in
    let at = c.args.at in
    let bytes = c.args.bytes.now in (
      word_more c.loop-n.work bytes at n c.word_at.result (length bytes) (omega arith) c.loop-n.invariant.0 c.word_at.ensures,
      λ k o. get_or-set_other c.loop-n.work (at + n) k c.word_at.result 0 (λ q. elim o [ inl h ↦ omega arith | inr h ↦ omega arith ]) ∙ c.loop-n.invariant.1 k o,
    )

pub returns : goal.returns
returns c =
    let bytes = c.args.bytes.now in
    record {
      bytes = sym (known-front (byte_in c.loop-n.work c.args.at) bytes (length bytes) 0 (omega arith) (λ k h. sym (c.loop-n.invariant.0 k (omega arith) h))) ∙ take_all (length bytes) bytes (omega arith);
      rest = λ k o. c.loop-n.invariant.1 k o;
    }
