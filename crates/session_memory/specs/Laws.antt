-- What a snapshot of records owes to the records.
use Rattle.std.specs.Prelude.{◌≡◌, ℕ, ◌+◌, ◌&&◌, not, true, List, ◌∷◌, map, filter, find, Some, None, option_map, is_none, if◌then◌else◌}
use Rattle.std.specs.List.{list_all}
use Rattle.seata_types.specs.declared.ids.Xid.{Xid}
use Rattle.seata_types.specs.declared.ids.Leg.{Leg}
use Rattle.seata_types.specs.declared.ids.Ticket.{Ticket}
use Rattle.seata_types.specs.declared.rows.RowKey.{RowKey}
use Rattle.seata_types.specs.declared.statuses.BranchKind.{BranchKind}
use Rattle.seata_types.specs.declared.statuses.BranchKind.TheVariants as kind
use Rattle.durable_records.specs.declared.coordinators.SessionRecord.{SessionRecord}
use Rattle.durable_records.specs.Transactions.{Session as Began, session, session_for, next_xid, decided, is_commit, is_rollback}
use Rattle.durable_records.specs.Branches.{Grant, branches, unended, unended_branch, all_at, granted, next_branch}
use Rattle.durable_records.specs.Progress.{is_known, status_of, may_decide, is_going as goes, is_finished as is_over}
use Rattle.durable_records.specs.Locks.{first_held as held_first}
use Rattle.durable_records.specs.SessionOrder.{Allowed, May, may}
use Rattle.lock_table.specs.Locks.{first_held}
use Rattle.session_log.specs.SnapshotOf.{in_order, branch_now, session_now, snapshot_of}
use Rattle.session_log.specs.Soundness.{is_at_branch, is_open_branch, is_open_with, all_differ, same_ticket_key, tickets}
use Rattle.session_memory.specs.Lookups.{session_in, status_in, branches_in, xid_for, ticket_leg, call_leg}
use Rattle.session_memory.specs.Holding.{keeps_rows, held_in}
use Rattle.session_memory.specs.Order.{IsCounted}
use Rattle.session_memory.specs.Loading.{are_held_once}
use Rattle.session_memory.specs.Changes.{is_begin, is_going, is_finished, after, may_come, is_new}

-- one more record, where it may come, does to the snapshot what `after` says
abbrev pub AppliesRecords : Type 0
AppliesRecords = (rs : List SessionRecord) → Allowed rs → (r : SessionRecord) → May rs r → snapshot_of (r ∷ rs) ≡ after r (snapshot_of rs)

-- a record may come after the snapshot exactly where it may come after the records
abbrev pub AllowsRecords : Type 0
AllowsRecords = (rs : List SessionRecord) → Allowed rs → (r : SessionRecord) → may_come (snapshot_of rs) r ≡ may rs r

-- nothing is registered for a known transaction by the snapshot exactly where nothing is by the records
abbrev pub FindsRegistered : Type 0
FindsRegistered = (rs : List SessionRecord) → Allowed rs → (x : Xid) (resource call : ℕ) (ticket : Ticket) (kind : BranchKind) → is_known rs x.0 ≡ true →
    is_new (snapshot_of rs) x resource call ticket kind ≡ is_none (granted rs x.0 resource call ticket kind)

-- ---- look-ups

-- what the snapshot says of transaction x
pub record TellsTransaction (rs : List SessionRecord) (x : ℕ) : Type 0 where
  pub session : session_in (snapshot_of rs) x ≡ (if is_known rs x then option_map (session_now rs) (session rs x) else None)
  pub status : status_in (snapshot_of rs) x ≡ status_of rs x
  pub undecided : is_begin (status_in (snapshot_of rs) x) ≡ may_decide rs x
  pub going : is_going (status_in (snapshot_of rs) x) ≡ goes rs x
  pub over : is_finished (status_in (snapshot_of rs) x) ≡ is_over rs x

-- what it says of the branches of a transaction that is known, and of its decision
pub record TellsBranches (rs : List SessionRecord) (x : ℕ) : Type 0 where
  pub all : branches_in (snapshot_of rs) x ≡ map (branch_now rs) (in_order (branches rs x))
  pub left : filter is_open_branch (branches_in (snapshot_of rs) x) ≡ map (branch_now rs) (in_order (unended rs x))
  pub one : (b : ℕ) → find (is_open_with b) (branches_in (snapshot_of rs) x) ≡ option_map (branch_now rs) (unended_branch rs x b)
  pub at : list_all is_at_branch (branches_in (snapshot_of rs) x) ≡ all_at (branches rs x)
  pub commit : not (keeps_rows (status_in (snapshot_of rs) x)) ≡ is_commit (decided rs x)
  pub rollback : (keeps_rows (status_in (snapshot_of rs) x) && not (is_begin (status_in (snapshot_of rs) x))) ≡ is_rollback (decided rs x)

-- the number of a transaction that began
abbrev pub began_as : Began → Xid
began_as s = record { 0 = s.xid }

-- a branch that was granted
abbrev pub leg_of_grant : Grant → Leg
leg_of_grant g = record { xid = record { 0 = g.xid }; branch = record { 0 = g.branch } }

-- a row that a branch holds, and the branch's transaction
abbrev pub held_row : RowKey × Grant → RowKey × Xid
held_row held = (held.0, record { 0 = held.1.xid })

-- the snapshot answers each look-up as the records do
pub record AnswersAlike (rs : List SessionRecord) : Type 0 where
  pub next_xid : (snapshot_of rs).begun + 1 ≡ next_xid rs
  pub next_branch : (snapshot_of rs).granted + 1 ≡ next_branch rs
  pub transaction : (x : ℕ) → TellsTransaction rs x
  pub branches : (x : ℕ) → is_known rs x ≡ true → TellsBranches rs x
  pub manager : (m : ℕ) → xid_for (snapshot_of rs) m ≡ option_map began_as (session_for rs m)
  pub ticket : (x resource call : ℕ) (ticket : Ticket) → ticket_leg (snapshot_of rs) resource ticket ≡ option_map leg_of_grant (granted rs x resource call ticket kind.At)
  pub call : (x : Xid) (resource call : ℕ) (ticket : Ticket) → call_leg (snapshot_of rs) x resource call ≡ option_map leg_of_grant (granted rs x.0 resource call ticket kind.Tcc)
  pub held : (x : Xid) (rows : List RowKey) → first_held (held_in (snapshot_of rs)) x rows ≡ option_map held_row (held_first rs x.0 rows)
  pub holder : (x : ℕ) (rows : List RowKey) (key : RowKey) (g : Grant) → held_first rs x rows ≡ Some (key, g) → is_known rs g.xid ≡ true

abbrev pub AnswersRecords : Type 0
AnswersRecords = (rs : List SessionRecord) → Allowed rs → AnswersAlike rs

-- ---- loading

-- the snapshot of these records can be loaded: it is counted, no two AT branches of a resource have one ticket, and no row has two
-- holders
pub record MayLoad (rs : List SessionRecord) : Type 0 where
  pub counted : IsCounted (snapshot_of rs)
  pub tickets : all_differ same_ticket_key (tickets (snapshot_of rs)) ≡ true
  pub once : are_held_once (held_in (snapshot_of rs)) ≡ true

abbrev pub LoadsAllowed : Type 0
LoadsAllowed = (rs : List SessionRecord) → Allowed rs → MayLoad rs
