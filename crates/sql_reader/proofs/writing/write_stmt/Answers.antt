use Rattle.std.proofs.Common.{◌≡◌, arith}
use Rattle.std.specs.Prelude.{string_bytes}
use Rattle.std.proofs.lemmas.Grind.{common_steps}
use Rattle.sql_reader.specs.Canonical.{canonical_text}
use Rattle.sql_reader.proofs.ReadBack.{reading_canonical}
use Rattle.sql_reader.proofs.Written.{written_text}
use Rattle.sql_reader.proofs.writing.write_stmt.Goals as goal

pub returns-clause-reads_back : goal.returns-clause-reads_back
unfolding canonical_text
returns-clause-reads_back c =
    let text : string_bytes c.into_text.result ≡ canonical_text c.args.stmt.now = grind (arith, common_steps, written_text) in
    rw text (reading_canonical c.args.stmt.now c.requires)
