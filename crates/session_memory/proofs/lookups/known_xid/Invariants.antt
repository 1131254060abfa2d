use Rattle.std.proofs.Common.{◌≡◌, drop}
use Rattle.std.specs.Prelude.{find}
use Rattle.session_memory.specs.Lookups.{has_manager}
use Rattle.session_memory.proofs.lookups.known_xid.Given as goal

abbrev pub invariant-loop-entry : goal.invariant-loop-entry
invariant-loop-entry l = find (has_manager l.manager) (drop l.entry-index l.sessions) ≡ find (has_manager l.manager) l.sessions
