use Rattle.std.proofs.Common.{◌≡◌, [], drop}
use Rattle.scenario_reader.specs.Tables.{key_behind}
use Rattle.scenario_reader.proofs.rows.key_of.Given as goal

abbrev pub invariant-loop-place : goal.invariant-loop-place
invariant-loop-place l = key_behind l.parts.items (drop l.place-index l.places) l.row ≡ key_behind [] l.places l.row
