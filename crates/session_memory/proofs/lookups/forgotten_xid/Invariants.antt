use Rattle.std.proofs.Common.{◌≡◌, drop}
use Rattle.std.specs.Prelude.{find}
use Rattle.session_memory.specs.Lookups.{was_of_manager}
use Rattle.session_memory.proofs.lookups.forgotten_xid.Given as goal

abbrev pub invariant-loop-entry : goal.invariant-loop-entry
invariant-loop-entry l = find (was_of_manager l.manager) (drop l.entry-index l.forgotten) ≡ find (was_of_manager l.manager) l.forgotten
