use Rattle.std.proofs.Common.{vec_items}
use Rattle.std.specs.Iterator.Adapters.{zip_first, zip_second}
use Rattle.std.specs.Slice.Iter.{iter_rest}
use Rattle.script.specs.Sentences.{texts}
use Rattle.script.specs.Tables.{each_bytes}
use Rattle.script.proofs.Going.{Going}
use Rattle.script.proofs.rows.put_fields.Given as goal

abbrev pub invariant-loop-field : goal.invariant-loop-field
invariant-loop-field l =
    Going (each_bytes l.fields (texts l.words)) (each_bytes (iter_rest (zip_first l.field-iterator)) (texts (iter_rest (zip_second l.field-iterator)))) (vec_items l.initial.out) (vec_items l.out)
