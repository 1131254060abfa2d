use Rattle.std.proofs.Common.{sym, subst}
use Rattle.local_tables.specs.Lookups.{IsRising}
use Rattle.local_tables.proofs.InsertLaws.{rising_nil}
use Rattle.local_tables.proofs.row_map.RowMap.new.Goals as goal

pub invariant_of-result : goal.invariant_of-result
invariant_of-result g c = subst IsRising (sym c.new.ensures.items) (rising_nil g.row.V.Denot)
