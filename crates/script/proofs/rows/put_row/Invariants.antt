use Rattle.std.proofs.Common.{drop, vec_items}
use Rattle.script.specs.Sentences.{texts}
use Rattle.script.specs.Tables.{row_bytes, all_bytes}
use Rattle.script.proofs.Going.{Going}
use Rattle.script.proofs.rows.put_row.Given as goal

abbrev pub invariant-loop-word : goal.invariant-loop-word
invariant-loop-word l =
    Going (row_bytes l.element (texts l.words)) (all_bytes l.element (texts (drop l.word-index l.words))) (vec_items l.fn.out) (vec_items l.out)
