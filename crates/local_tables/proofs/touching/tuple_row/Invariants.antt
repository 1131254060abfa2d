use Rattle.std.proofs.Common.{◌≡◌, ◌++◌, filter_map, drop}
use Rattle.local_tables.specs.Touches.{value_for}
use Rattle.local_tables.proofs.touching.tuple_row.Given as goal

abbrev pub invariant-loop-column : goal.invariant-loop-column
invariant-loop-column l =
    l.cells.items ++ filter_map (value_for l.columns l.tuple) (drop l.column-index l.def.columns) ≡ filter_map (value_for l.columns l.tuple) l.def.columns
