use Rattle.std.proofs.Common.{◌≡◌, drop}
use Rattle.lock_table.specs.Locks.{first_held}
use Rattle.coordinator_rules.specs.Choices.{nobody}
use Rattle.coordinator_rules.proofs.choosing.first_held.Given as goal

abbrev pub invariant-loop-key : goal.invariant-loop-key
invariant-loop-key g l = first_held l.locks nobody (drop l.key-index l.rows) ≡ first_held l.locks nobody l.rows
