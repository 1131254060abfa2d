use Rattle.std.proofs.Common.{rules}
use Rattle.local_tables.proofs.ListLaws.{count_by_map}
use Rattle.local_tables.proofs.state.stood.Goals as goal

pub returns : goal.returns
returns c = rw count_by_map (search rules)
