use Rattle.sql_reader.proofs.ReadBack.{reading_readable}
use Rattle.sql_reader.proofs.laws.what_is_read_can_be_written.Goals as goal

pub returns : goal.returns
returns c = reading_readable
