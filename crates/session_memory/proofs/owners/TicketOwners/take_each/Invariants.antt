use Rattle.std.proofs.Common.{◌≡◌, ℕ, drop}
use Rattle.seata_types.specs.declared.ids.Ticket.{Ticket}
use Rattle.session_memory.specs.Lookups.{or_else}
use Rattle.session_memory.specs.Owners.{owned_leg, owned_among}
use Rattle.session_memory.proofs.owners.TicketOwners.take_each.Given as goal

abbrev pub invariant-loop-branch : goal.invariant-loop-branch
invariant-loop-branch l = (resource : ℕ) (t : Ticket) →
    or_else (owned_leg l.self resource t) (owned_among l.xid (drop l.branch-index l.branches) resource t) ≡ or_else (owned_leg l.initial.self resource t) (owned_among l.xid l.branches resource t)
