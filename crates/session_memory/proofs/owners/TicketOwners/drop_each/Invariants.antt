use Rattle.session_memory.specs.Owners.{OthersStay}
use Rattle.session_memory.proofs.owners.TicketOwners.drop_each.Given as goal

abbrev pub invariant-loop-branch : goal.invariant-loop-branch
invariant-loop-branch l = OthersStay l.xid l.initial.self l.self
