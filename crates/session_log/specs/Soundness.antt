-- Which snapshots are read: those of a coordinator with this many managers and resources. That no row has two holders is
-- asked apart from this, where the rows are taken.
use Rattle.std.specs.Prelude.{◌≡◌, ◌≢◌, ℕ, ◌==◌, ◌&&◌, nat_eq, nat_le, nat_lt, Bool, true, false, not, if◌then◌else◌, Option, Some, None, List, [], ◌∷◌, ◌++◌, map, Result, Ok, Err}
use Rattle.std.specs.List.{list_all, list_any, flat_map}
use Rattle.seata_types.specs.declared.limits.TheConstants.{CALLS}
use Rattle.seata_types.specs.declared.ids.Xid.{Xid}
use Rattle.seata_types.specs.declared.ids.BranchId.{BranchId}
use Rattle.seata_types.specs.declared.statuses.BranchKind.{BranchKind}
use Rattle.seata_types.specs.declared.statuses.BranchKind.TheVariants as kind
use Rattle.seata_types.specs.declared.statuses.GlobalStatus.{GlobalStatus}
use Rattle.seata_types.specs.declared.statuses.GlobalStatus.TheVariants as status
use Rattle.byte_fields.specs.declared.errors.FieldError.{FieldError}
use Rattle.byte_fields.specs.declared.errors.FieldError.TheVariants as field
use Rattle.durable_records.specs.Branches.{is_at, same_ticket}
use Rattle.durable_records.specs.SessionOrder.{is_counted, has_resource}
use Rattle.session_log.specs.declared.sessions.Branch.{Branch}
use Rattle.session_log.specs.declared.sessions.SessionEntry.{SessionEntry}
use Rattle.session_log.specs.declared.sessions.Forgotten.{Forgotten}
use Rattle.session_log.specs.declared.sessions.Snapshot.{Snapshot}
use Rattle.session_log.specs.declared.keys.TicketKey.{TicketKey}
use Rattle.session_log.specs.declared.keys.CallKey.{CallKey}
use Rattle.session_log.specs.declared.errors.SnapshotError.{SnapshotError}
use Rattle.session_log.specs.declared.errors.SnapshotError.TheVariants as errors
use Rattle.seata_types.specs.declared.limits.TheConstants.{ACTS}
use Rattle.session_log.specs.Snapshots.{snapshot_in_bytes}

-- ---- counts: fewer acts than 2^31, and no more transactions or branches than acts

abbrev pub has_counts : Snapshot → Bool
has_counts s = nat_lt s.acts ACTS && (nat_le s.begun s.acts && nat_le s.granted s.acts)

-- ---- a branch

abbrev pub is_ended_branch : Branch → Bool
is_ended_branch b = b.ended

abbrev pub is_open_branch : Branch → Bool
is_open_branch b = not b.ended

abbrev pub is_at_branch : Branch → Bool
is_at_branch b = is_at b.place.kind

abbrev pub is_tcc_branch : Branch → Bool
is_tcc_branch b = not (is_at b.place.kind)

-- its number was granted, and its resource, its call and the resources of its rows are there
abbrev pub is_numbered_branch : (resources granted : ℕ) → Branch → Bool
is_numbered_branch resources granted b =
    nat_le b.id.0 granted && (is_counted resources b.place.resource && (is_counted CALLS b.place.call && list_all (has_resource resources) b.hold))

-- ---- a transaction

-- a status goes with these branches
abbrev pub status_fits : GlobalStatus → List Branch → Bool
status_fits status.UnKnown bs = false
status_fits status.Begin bs = list_all is_open_branch bs
status_fits status.Committing bs = list_any is_tcc_branch bs
status_fits status.CommitRetrying bs = list_any is_tcc_branch bs
status_fits status.Rollbacking bs = true
status_fits status.RollbackRetrying bs = true
status_fits status.TimeoutRollbacking bs = true
status_fits status.TimeoutRollbackRetrying bs = true
status_fits status.AsyncCommitting bs = list_all is_at_branch bs
status_fits status.Committed bs = list_all is_ended_branch bs
status_fits status.CommitFailed bs = true
status_fits status.Rollbacked bs = list_all is_ended_branch bs
status_fits status.RollbackFailed bs = true
status_fits status.TimeoutRollbacked bs = list_all is_ended_branch bs
status_fits status.TimeoutRollbackFailed bs = true
status_fits status.Finished bs = false

abbrev pub is_failed_status : GlobalStatus → Bool
is_failed_status status.CommitFailed = true
is_failed_status status.RollbackFailed = true
is_failed_status status.TimeoutRollbackFailed = true
is_failed_status _ = false

abbrev pub is_open_with : ℕ → Branch → Bool
is_open_with id b = (b.id.0 == id) && not b.ended

-- a transaction has a failed branch exactly at a failed status, and it is one of its own that isn't ended
abbrev pub failure_fits : GlobalStatus → Option (BranchId × ℕ) → List Branch → Bool
failure_fits code None bs = not (is_failed_status code)
failure_fits code (Some failure) bs = is_failed_status code && list_any (is_open_with failure.0.0) bs

abbrev pub is_entry : (managers resources begun granted : ℕ) → SessionEntry → Bool
is_entry managers resources begun granted e =
    nat_le e.xid.0 begun && (is_counted managers e.session.manager && (status_fits e.session.status e.session.branches &&
    (failure_fits e.session.status e.session.failed e.session.branches &&
    list_all (is_numbered_branch resources granted) e.session.branches)))

-- ---- what stands once

-- none of these is one of those before it
abbrev pub differ_after : {X : Type 0} → (X → X → Bool) → List X → List X → Bool
differ_after same before [] = true
differ_after same before (x ∷ xs) = not (list_any (same x) before) && differ_after same (x ∷ before) xs

abbrev pub all_differ : {X : Type 0} → (X → X → Bool) → List X → Bool
all_differ same xs = differ_after same [] xs

abbrev pub entry_xid : SessionEntry → ℕ
entry_xid e = e.xid.0

abbrev pub entry_manager : SessionEntry → ℕ
entry_manager e = e.session.manager

abbrev pub forgotten_xid : Forgotten → ℕ
forgotten_xid f = f.xid.0

abbrev pub forgotten_manager : Forgotten → ℕ
forgotten_manager f = f.manager

-- a forgotten transaction isn't a known one too
abbrev pub xids : Snapshot → List ℕ
xids s = map entry_xid s.sessions ++ map forgotten_xid s.forgotten

-- a manager began one transaction, known or forgotten
abbrev pub managers_of : Snapshot → List ℕ
managers_of s = map entry_manager s.sessions ++ map forgotten_manager s.forgotten

-- an AT branch has its resource's ticket alone
abbrev pub same_ticket_key : TicketKey → TicketKey → Bool
same_ticket_key a b = (a.resource == b.resource) && same_ticket a.ticket b.ticket

abbrev pub ticket_of : BranchKind → Branch → List TicketKey
ticket_of kind.At b = record { resource = b.place.resource; ticket = b.place.ticket } ∷ []
ticket_of kind.Tcc b = []

abbrev pub branch_ticket : Branch → List TicketKey
branch_ticket b = ticket_of b.place.kind b

abbrev pub entry_tickets : SessionEntry → List TicketKey
entry_tickets e = flat_map branch_ticket e.session.branches

abbrev pub tickets : Snapshot → List TicketKey
tickets s = flat_map entry_tickets s.sessions

-- a TCC branch has its transaction's call at its resource alone
abbrev pub same_call_key : CallKey → CallKey → Bool
same_call_key a b = (a.xid.0 == b.xid.0) && ((a.resource == b.resource) && (a.call == b.call))

abbrev pub call_of : BranchKind → Xid → Branch → List CallKey
call_of kind.At xid b = []
call_of kind.Tcc xid b = record { xid = xid; resource = b.place.resource; call = b.place.call } ∷ []

abbrev pub branch_call : Xid → Branch → List CallKey
branch_call xid b = call_of b.place.kind xid b

abbrev pub entry_calls : SessionEntry → List CallKey
entry_calls e = flat_map (branch_call e.xid) e.session.branches

abbrev pub calls : Snapshot → List CallKey
calls s = flat_map entry_calls s.sessions

-- ---- the whole

abbrev pub is_forgotten_entry : (managers begun : ℕ) → Forgotten → Bool
is_forgotten_entry managers begun f = nat_le f.xid.0 begun && is_counted managers f.manager

abbrev pub has_sound_parts : (managers resources : ℕ) → Snapshot → Bool
has_sound_parts managers resources s =
    has_counts s && (list_all (is_entry managers resources s.begun s.granted) s.sessions &&
    list_all (is_forgotten_entry managers s.begun) s.forgotten)

unfoldable pub is_sound : (managers resources : ℕ) → Snapshot → Bool
is_sound managers resources s =
    has_sound_parts managers resources s && (all_differ nat_eq (xids s) && (all_differ nat_eq (managers_of s) &&
    (all_differ same_ticket_key (tickets s) && all_differ same_call_key (calls s))))

abbrev pub if_sound : (managers resources : ℕ) → Option Snapshot → Option Snapshot
if_sound managers resources None = None
if_sound managers resources (Some s) = if is_sound managers resources s then Some s else None

-- what a fault of a field says of the snapshot
abbrev pub IsFaultOfSnapshot : FieldError → SnapshotError → Type 0
IsFaultOfSnapshot fault errors.Damaged = fault ≢ field.NoMemory
IsFaultOfSnapshot fault errors.NoMemory = Unit {0}

-- what looking for a snapshot answers
abbrev pub FindsSnapshot : Option Snapshot → Result Snapshot SnapshotError → Type 0
FindsSnapshot found (Ok s) = found ≡ Some s
FindsSnapshot found (Err errors.Damaged) = found ≡ None
FindsSnapshot found (Err errors.NoMemory) = Unit {0}

-- what reading a snapshot answers: a sound one, or that there is none. Want of memory alone is free.
abbrev pub ReadsSnapshot : (managers resources : ℕ) → List ℕ → Result Snapshot SnapshotError → Type 0
ReadsSnapshot managers resources bytes result = FindsSnapshot (if_sound managers resources (snapshot_in_bytes bytes)) result
