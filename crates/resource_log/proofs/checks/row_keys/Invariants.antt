use Rattle.std.proofs.Common.{◌≡◌, ◌++◌, drop, option_map}
use Rattle.local_tables.specs.Fitting.{row_key}
use Rattle.local_tables.specs.Rows.{each_of}
use Rattle.resource_log.specs.Soundness.{row_keys}
use Rattle.resource_log.proofs.checks.row_keys.Given as goal

abbrev pub invariant-loop-named : goal.invariant-loop-named
invariant-loop-named l =
    option_map (λ rest. l.keys.items ++ rest) (each_of (row_key l.resource l.schema) (drop l.named-index l.rows)) ≡ row_keys l.resource l.schema l.rows
