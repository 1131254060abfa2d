-- What a snapshot says of a transaction, of a manager and of a branch.
use Rattle.std.specs.Prelude.{ℕ, ◌==◌, ◌&&◌, nat_lt, Bool, true, false, if◌then◌else◌, not, List, [], ◌∷◌, find, Option, Some, None, option_map}
use Rattle.seata_types.specs.declared.ids.Xid.{Xid}
use Rattle.seata_types.specs.declared.ids.Leg.{Leg}
use Rattle.seata_types.specs.declared.ids.Ticket.{Ticket}
use Rattle.seata_types.specs.declared.statuses.GlobalStatus.{GlobalStatus}
use Rattle.seata_types.specs.declared.statuses.GlobalStatus.TheVariants as status
use Rattle.durable_records.specs.Branches.{is_at, same_ticket}
use Rattle.session_log.specs.declared.sessions.Branch.{Branch}
use Rattle.session_log.specs.declared.sessions.Session.{Session}
use Rattle.session_log.specs.declared.sessions.SessionEntry.{SessionEntry}
use Rattle.session_log.specs.declared.sessions.Forgotten.{Forgotten}
use Rattle.session_log.specs.declared.sessions.Snapshot.{Snapshot}
use Rattle.session_log.specs.Soundness.{is_open_branch}

-- ---- transactions

abbrev pub has_xid : ℕ → SessionEntry → Bool
has_xid x e = e.xid.0 == x

abbrev pub session_of : SessionEntry → Session
session_of e = e.session

-- transaction x, where it is known
abbrev pub session_in : Snapshot → ℕ → Option Session
session_in s x = option_map session_of (find (has_xid x) s.sessions)

abbrev pub status_or_finished : Option Session → GlobalStatus
status_or_finished None = status.Finished
status_or_finished (Some t) = t.status

-- the status of x: Finished where it isn't known
abbrev pub status_in : Snapshot → ℕ → GlobalStatus
status_in s x = status_or_finished (session_in s x)

abbrev pub branches_or_none : Option Session → List Branch
branches_or_none None = []
branches_or_none (Some t) = t.branches

-- the branches of x, the first one first
abbrev pub branches_in : Snapshot → ℕ → List Branch
branches_in s x = branches_or_none (session_in s x)

-- ---- managers

abbrev pub has_manager : ℕ → SessionEntry → Bool
has_manager m e = e.session.manager == m

abbrev pub was_of_manager : ℕ → Forgotten → Bool
was_of_manager m f = f.manager == m

abbrev pub xid_of : SessionEntry → Xid
xid_of e = e.xid

abbrev pub forgotten_xid : Forgotten → Xid
forgotten_xid f = f.xid

-- a forgotten transaction with a number above x
abbrev pub is_later : ℕ → Forgotten → Bool
is_later x f = nat_lt x f.xid.0

-- the first of two
abbrev pub or_else : {X : Type 0} → Option X → Option X → Option X
or_else None other = other
or_else (Some x) other = Some x

-- the transaction of a manager, also where it is forgotten
abbrev pub xid_for : Snapshot → ℕ → Option Xid
xid_for s m = or_else (option_map xid_of (find (has_manager m) s.sessions)) (option_map forgotten_xid (find (was_of_manager m) s.forgotten))

-- ---- branches

abbrev pub leg_of : Xid → Branch → Leg
leg_of x b = record { xid = x; branch = b.id }

-- the first branch of x that passes
abbrev pub leg_with : (Branch → Bool) → Xid → List Branch → Option Leg
leg_with test x bs = option_map (leg_of x) (find test bs)

-- the first branch of all that passes
abbrev pub first_leg : (Branch → Bool) → List SessionEntry → Option Leg
first_leg test [] = None
first_leg test (e ∷ es) = or_else (leg_with test e.xid e.session.branches) (first_leg test es)

abbrev pub has_number : ℕ → Branch → Bool
has_number b c = c.id.0 == b

-- an AT branch of a resource's local transaction
abbrev pub has_ticket : (resource : ℕ) → Ticket → Branch → Bool
has_ticket resource ticket b = is_at b.place.kind && ((b.place.resource == resource) && same_ticket b.place.ticket ticket)

-- a TCC branch of a call at a resource
abbrev pub has_call : (resource call : ℕ) → Branch → Bool
has_call resource call b = not (is_at b.place.kind) && ((b.place.resource == resource) && (b.place.call == call))

-- an AT branch of this number and of a resource's local transaction
abbrev pub is_with : (branch resource : ℕ) → Ticket → Branch → Bool
is_with branch resource ticket b = has_number branch b && has_ticket resource ticket b

-- the AT branch that was registered for a resource's ticket
abbrev pub ticket_leg : Snapshot → (resource : ℕ) → Ticket → Option Leg
ticket_leg s resource ticket = first_leg (has_ticket resource ticket) s.sessions

-- the TCC branch that was registered for a call of x at a resource
abbrev pub call_leg : Snapshot → Xid → (resource call : ℕ) → Option Leg
call_leg s x resource call = leg_with (has_call resource call) x (branches_in s x.0)

-- ---- open branches

abbrev pub if_open : Branch → Option Branch
if_open b = if is_open_branch b then Some b else None

-- the last branch that isn't ended
abbrev pub last_open : List Branch → Option Branch
last_open [] = None
last_open (b ∷ bs) = or_else (last_open bs) (if_open b)

-- the branch that is asked next: after a commit the first one that isn't ended, else the last one
abbrev pub next_open : Bool → List Branch → Option Branch
next_open true bs = find is_open_branch bs
next_open false bs = last_open bs
