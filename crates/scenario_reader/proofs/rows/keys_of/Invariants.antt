use Rattle.std.proofs.Common.{take}
use Rattle.scenario_reader.specs.Tables.{HaveKeys}
use Rattle.scenario_reader.proofs.rows.keys_of.Given as goal

abbrev pub invariant-loop-row : goal.invariant-loop-row
invariant-loop-row l = HaveKeys l.places (take l.row-index l.rows) l.keys.keys
