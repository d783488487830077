use Rattle.std.proofs.Common.{length}
use Rattle.damage.specs.Screen.{ReadIsWritten, WrittenIsRead, RowsJoin, PutsJoin}
use Rattle.damage.proofs.Decoding.{decoded, coded, whole-formed, whole-on, formed-whole, rows_join, puts-join}
use Rattle.damage.proofs.apply.screen_stands.Goals as goal

pub returns : goal.returns
unfolding ReadIsWritten WrittenIsRead RowsJoin PutsJoin
returns c =
    record {
      read = λ wide high ws bs e. let d = decoded (length ws) wide high ws bs e in (d.0, whole-formed wide high bs d.1, whole-on wide high bs d.1);
      written = λ wide high bs h k f o. coded wide high bs (formed-whole wide high bs h k f o);
      rows = rows_join;
      puts = puts-join;
    }
