use Rattle.std.proofs.Common.{◌≡◌, ◌++◌, map, drop}
use Rattle.local_tables.specs.Rows.{comes}
use Rattle.local_tables.specs.Touches.{inserted}
use Rattle.local_tables.proofs.touching.insertions.Given as goal

abbrev pub invariant-loop-tuple : goal.invariant-loop-tuple
invariant-loop-tuple l =
    l.changes.items ++ map comes (inserted l.resource l.def l.columns (drop l.tuple-index l.tuples)) ≡ map comes (inserted l.resource l.def l.columns l.tuples)
