-- The snapshot of a list of records. Lists of records stand newest first, the lists of a snapshot in rising order.
use Rattle.std.specs.Prelude.{ℕ, Bool, not, Option, Some, None, List, [], ◌∷◌, ◌++◌, length, map, filter}
use Rattle.seata_types.specs.declared.ids.BranchId.{BranchId}
use Rattle.durable_records.specs.declared.coordinators.SessionRecord.{SessionRecord}
use Rattle.durable_records.specs.Transactions.{Session as Began, sessions, is_forgotten, failed}
use Rattle.durable_records.specs.Branches.{Grant, grants, branches, is_ended}
use Rattle.durable_records.specs.Progress.{status_of}
use Rattle.session_log.specs.declared.sessions.Branch.{Branch}
use Rattle.session_log.specs.declared.sessions.Session.{Session}
use Rattle.session_log.specs.declared.sessions.SessionEntry.{SessionEntry}
use Rattle.session_log.specs.declared.sessions.Forgotten.{Forgotten}
use Rattle.session_log.specs.declared.sessions.Snapshot.{Snapshot}

-- the first ones first
abbrev pub in_order : {X : Type 0} → List X → List X
in_order [] = []
in_order (x ∷ xs) = in_order xs ++ x ∷ []

-- a branch as it stands
abbrev pub branch_now : List SessionRecord → Grant → Branch
branch_now rs g = record {
  id = record { 0 = g.branch };
  place = record { resource = g.resource; call = g.call; ticket = g.ticket; kind = g.kind };
  hold = g.hold;
  ended = is_ended rs g.xid g.branch;
}

abbrev pub failure_of : Option (ℕ × ℕ) → Option (BranchId × ℕ)
failure_of None = None
failure_of (Some failure) = Some (record { 0 = failure.0 }, failure.1)

-- a transaction as it stands
abbrev pub session_now : List SessionRecord → Began → Session
session_now rs s = record {
  manager = s.manager;
  begun = s.begun;
  timeout = s.timeout;
  status = status_of rs s.xid;
  branches = map (branch_now rs) (in_order (branches rs s.xid));
  failed = failure_of (failed rs s.xid);
}

abbrev pub entry_now : List SessionRecord → Began → SessionEntry
entry_now rs s = record { xid = record { 0 = s.xid }; session = session_now rs s }

abbrev pub is_forgotten_session : List SessionRecord → Began → Bool
is_forgotten_session rs s = is_forgotten rs s.xid

abbrev pub is_kept_session : List SessionRecord → Began → Bool
is_kept_session rs s = not (is_forgotten rs s.xid)

abbrev pub forgotten_now : Began → Forgotten
forgotten_now s = record { xid = record { 0 = s.xid }; manager = s.manager }

-- what these records say
abbrev pub snapshot_of : List SessionRecord → Snapshot
snapshot_of rs = record {
  acts = length rs;
  begun = length (sessions rs);
  granted = length (grants rs);
  sessions = map (entry_now rs) (in_order (filter (is_kept_session rs) (sessions rs)));
  forgotten = map forgotten_now (in_order (filter (is_forgotten_session rs) (sessions rs)));
}
