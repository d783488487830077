use Rattle.std.proofs.Common.{length, arith}
use Rattle.std.proofs.lemmas.Bool.{both_ways}
use Rattle.server.proofs.Telling.{told_none, told-some, told-fits}
use Rattle.server.proofs.step.tell.Goals as goal

pub returns-in_default : goal.returns-in_default
returns-in_default c =
    record { added = told_none c.args.at c.args.source.now c.args.told c.args.words.now c.in_default.is; bytes = λ i. omega (arith, c.type_inv.source i) }

pub returns-in-Some-write_word : goal.returns-in-Some-write_word
returns-in-Some-write_word c =
    record {
      added = told-some c.args.at _ c.args.source.now c.args.told c.in-Some.t c.args.words.now _ c.in-Some.is c.in-Some-write_word.ensures.2;
      bytes = λ i. omega (arith, c.type_inv.source i);
    }

pub returns-in-None : goal.returns-in-None
returns-in-None c =
    absurd (both_ways _ c.in-None.ensures.0 (told-fits c.args.at c.args.source.now c.args.told c.in-Some.t (length c.args.words.now) c.in-Some.is c.requires.had c.requires.room))
