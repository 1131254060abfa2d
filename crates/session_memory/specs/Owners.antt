-- Which AT branch has a ticket.
use Rattle.std.specs.Prelude.{◌≡◌, ℕ, ◌==◌, true, false, List, [], ◌∷◌, length, max, Option, Some, option_map}
use Rattle.std.specs.BTreeMap.{is_at as is_at_key}
use Rattle.std.specs.Map.{lookup}
use Rattle.std.specs.declared.cmp.Ordering.{Ordering}
use Rattle.std.specs.Ordering.{nat_cmp, ordering_then}
use Rattle.seata_types.specs.declared.ids.Leg.{Leg}
use Rattle.seata_types.specs.declared.ids.Ticket.{Ticket}
use Rattle.seata_types.specs.declared.ids.Xid.{Xid}
use Rattle.session_log.specs.declared.keys.TicketKey.{TicketKey}
use Rattle.session_log.specs.declared.sessions.Branch.{Branch}
use Rattle.session_log.specs.declared.sessions.SessionEntry.{SessionEntry}
use Rattle.session_log.specs.Soundness.{is_at_branch}
use Rattle.session_memory.specs.Lookups.{or_else, leg_of, has_ticket, leg_with, first_leg}
use Rattle.session_memory.specs.Order.{Each}

-- tickets stand by resource, boot and count
abbrev pub ticket_order : TicketKey → TicketKey → Ordering
ticket_order a b = ordering_then (nat_cmp a.resource b.resource) (ordering_then (nat_cmp a.ticket.boot b.ticket.boot) (nat_cmp a.ticket.seq b.ticket.seq))

-- tickets with their branches, in this order
abbrev pub Owners : Type 0
Owners = List (TicketKey × Leg)

-- the branch of a resource's ticket
abbrev pub owned_leg : Owners → (resource : ℕ) → Ticket → Option Leg
owned_leg os resource t = lookup (is_at_key (ticket_order (record { resource = resource; ticket = t }))) os

abbrev pub leg_xid : Leg → Xid
leg_xid leg = leg.xid

-- its transaction
abbrev pub owner_of : Owners → (resource : ℕ) → Ticket → Option Xid
owner_of os resource t = option_map leg_xid (owned_leg os resource t)

-- a branch of this transaction is the one of its ticket, where it is AT
abbrev pub IsOwned : Owners → Xid → Branch → Type 0
IsOwned os x b = is_at_branch b ≡ true → owned_leg os b.place.resource b.place.ticket ≡ Some (leg_of x b)

abbrev pub EachOwned : Owners → SessionEntry → Type 0
EachOwned os e = Each (IsOwned os e.xid) e.session.branches

-- each AT branch is the one of its ticket
abbrev pub AreOwned : Owners → List SessionEntry → Type 0
AreOwned os es = Each (EachOwned os) es

-- a ticket that a branch doesn't have has the branch that it had
abbrev pub KeepsOthers : Branch → Owners → Owners → Type 0
KeepsOthers b old new = (resource : ℕ) (t : Ticket) → has_ticket resource t b ≡ false → owned_leg new resource t ≡ owned_leg old resource t

-- a ticket of another transaction than x has the branch that it had
abbrev pub OthersStay : Xid → Owners → Owners → Type 0
OthersStay x old new = (resource : ℕ) (t : Ticket) (leg : Leg) → (leg.xid.0 == x.0) ≡ false → owned_leg old resource t ≡ Some leg → owned_leg new resource t ≡ Some leg

-- ---- loading

-- the first AT branch of a ticket that these transactions have
abbrev pub first_owned : List SessionEntry → (resource : ℕ) → Ticket → Option Leg
first_owned es resource t = first_leg (has_ticket resource t) es

-- the first AT branch of a ticket among these branches of x
abbrev pub owned_among : Xid → List Branch → (resource : ℕ) → Ticket → Option Leg
owned_among x bs resource t = leg_with (has_ticket resource t) x bs

-- a ticket has the branch that it had, and else the one that these say
abbrev pub Takes : Owners → ((resource : ℕ) → Ticket → Option Leg) → Owners → Type 0
Takes old more new = (resource : ℕ) (t : Ticket) → owned_leg new resource t ≡ or_else (owned_leg old resource t) (more resource t)

-- ---- passes

-- the most branches that one of these transactions has
abbrev pub most_branches : List SessionEntry → ℕ
most_branches [] = 0
most_branches (e ∷ es) = max (length e.session.branches) (most_branches es)
