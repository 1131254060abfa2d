use Rattle.std.proofs.Common.{◌≡◌, ◌++◌, List, drop, option_map}
use Rattle.local_tables.specs.Lookups.{literal_at}
use Rattle.seata_types.specs.declared.rows.Value.{Value}
use Rattle.local_tables.specs.Rows.{each_of}
use Rattle.local_tables.proofs.matching.key_literals.Given as goal

abbrev pub invariant-loop-place : goal.invariant-loop-place
invariant-loop-place l =
    option_map (λ (rest : List Value). l.values.items ++ rest) (each_of (literal_at l.def l.cond) (drop l.place-index l.def.key)) ≡ each_of (literal_at l.def l.cond) l.def.key
