use Rattle.std.proofs.Common.{◌≡◌, map, take}
use Rattle.session_memory.specs.Lookups.{xid_of}
use Rattle.session_memory.proofs.lookups.xids.Given as goal

abbrev pub invariant-loop-entry : goal.invariant-loop-entry
invariant-loop-entry l = l.xids.items ≡ map xid_of (take l.entry-index l.sessions)
