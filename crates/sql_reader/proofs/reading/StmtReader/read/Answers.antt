use Rattle.std.proofs.Common.{◌≡◌, Ok, arith}
use Rattle.std.proofs.lemmas.Grind.{common_steps}
use Rattle.sql_reader.specs.Answer.{reading}
use Rattle.sql_reader.proofs.ReadBack.{reading_readable}
use Rattle.sql_reader.proofs.reading.StmtReader.read.Goals as goal

pub returns-in-Ok-statement-clause-readable : goal.returns-in-Ok-statement-clause-readable
unfolding reading
returns-in-Ok-statement-clause-readable c =
    let found : reading c.args.text.now ≡ Ok c.in-Ok-statement.statement = grind (arith, common_steps) in
    reading_readable c.args.text.now c.in-Ok-statement.statement found
