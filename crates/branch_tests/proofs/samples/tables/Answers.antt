use Rattle.branch_tests.proofs.SavedMemories.{no_rows}
use Rattle.branch_tests.proofs.samples.tables.Goals as goal

pub new-requires : goal.new-requires
new-requires c = no_rows 1 _ _ c.nothing.ensures
