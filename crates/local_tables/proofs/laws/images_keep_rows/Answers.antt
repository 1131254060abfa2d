use Rattle.local_tables.proofs.RowsKept.{images_keep_rows}
use Rattle.local_tables.proofs.laws.images_keep_rows.Goals as goal

pub returns : goal.returns
returns c = images_keep_rows
