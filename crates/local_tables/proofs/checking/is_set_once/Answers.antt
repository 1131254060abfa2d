use Rattle.std.proofs.Common.{rules}
use Rattle.local_tables.proofs.ListLaws.{count_by_map}
use Rattle.local_tables.proofs.checking.is_set_once.Goals as goal

pub returns : goal.returns
returns c = rw count_by_map (search rules)
