use Rattle.std.proofs.Common.{◌≡◌, ℕ, [], drop}
use Rattle.seata_types.specs.declared.ids.Ticket.{Ticket}
use Rattle.session_memory.specs.Lookups.{or_else}
use Rattle.session_memory.specs.Owners.{owned_leg, first_owned}
use Rattle.session_memory.proofs.owners.TicketOwners.of.Given as goal

abbrev pub invariant-loop-entry : goal.invariant-loop-entry
invariant-loop-entry l = (resource : ℕ) (t : Ticket) →
    or_else (owned_leg l.owners resource t) (first_owned (drop l.entry-index l.sessions) resource t) ≡ or_else (owned_leg [] resource t) (first_owned l.sessions resource t)
