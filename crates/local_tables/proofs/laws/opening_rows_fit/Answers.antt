use Rattle.local_tables.proofs.RowsKept.{openings_fit}
use Rattle.local_tables.proofs.laws.opening_rows_fit.Goals as goal

pub returns : goal.returns
returns c = openings_fit
