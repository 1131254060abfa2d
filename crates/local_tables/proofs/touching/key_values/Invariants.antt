use Rattle.std.proofs.Common.{◌≡◌, ◌++◌, List, drop, option_map}
use Rattle.std.specs.Prelude.{slice_get}
use Rattle.seata_types.specs.declared.rows.Value.{Value}
use Rattle.local_tables.specs.Rows.{each_of}
use Rattle.local_tables.proofs.touching.key_values.Given as goal

abbrev pub invariant-loop-place : goal.invariant-loop-place
invariant-loop-place l =
    option_map (λ (rest : List Value). l.values.items ++ rest) (each_of (slice_get l.row.0) (drop l.place-index l.def.key)) ≡ each_of (slice_get l.row.0) l.def.key
