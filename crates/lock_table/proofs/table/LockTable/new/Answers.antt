use Rattle.lock_table.proofs.Holders.{no_rows}
use Rattle.lock_table.proofs.table.LockTable.new.Goals as goal

pub invariant_of-result : goal.invariant_of-result
invariant_of-result c = rw (c.new.ensures.items, c.new-2.ensures.empty) no_rows
