use Rattle.std.proofs.Common.{◌≡◌, map, drop}
use Rattle.std.specs.List.{list_all}
use Rattle.local_tables.specs.Checks.{is_once, name_of}
use Rattle.local_tables.proofs.checking.each_once.Given as goal

abbrev pub invariant-loop-column : goal.invariant-loop-column
invariant-loop-column l =
    list_all (is_once l.names) (map name_of (drop l.column-index l.columns)) ≡ list_all (is_once l.names) (map name_of l.columns)
