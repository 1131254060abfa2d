-- How records and snapshots of a scenario are read, and what of a snapshot has a place in its bytes.
use Rattle.std.specs.Prelude.{◌≡◌, ◌≢◌, ℕ, ◌<◌, ◌≤◌, ◌^◌, nat_le, Bool, true, if◌then◌else◌, Option, Some, None, List, All, length}
use Rattle.std.specs.List.{list_all}
use Rattle.seata_types.specs.declared.limits.TheConstants.{FIELD_ITEMS}
use Rattle.byte_fields.specs.Layout.{FitsTicket, FitsKeys}
use Rattle.durable_records.specs.declared.coordinators.SessionRecord.{SessionRecord}
use Rattle.durable_records.specs.SessionOrder.{is_within}
use Rattle.session_log.specs.declared.sessions.Branch.{Branch}
use Rattle.session_log.specs.declared.sessions.SessionEntry.{SessionEntry}
use Rattle.session_log.specs.declared.sessions.Forgotten.{Forgotten}
use Rattle.session_log.specs.declared.sessions.Snapshot.{Snapshot}
use Rattle.seata_types.specs.declared.limits.TheConstants.{ACTS}
use Rattle.session_log.specs.Records.{record_of}
use Rattle.session_log.specs.Snapshots.{FitsFailure, FitsSnapshot, snapshot_in_bytes}
use Rattle.session_log.specs.Soundness.{if_sound, forgotten_xid}
use Rattle.session_memory.specs.Changes.{after, may_come}
use Rattle.session_memory.specs.Holding.{held_in}
use Rattle.session_memory.specs.Loading.{are_held_once}
use Rattle.session_memory.specs.Order.{Each, AreRising, IsCounted}

-- ---- reading

-- a record whose numbers are those of a scenario with so many managers and resources
abbrev pub if_within : (managers resources : ℕ) → Option SessionRecord → Option SessionRecord
if_within managers resources None = None
if_within managers resources (Some item) = if is_within managers resources item then Some item else None

-- a snapshot in which no row has two holders
abbrev pub if_held_once : Option Snapshot → Option Snapshot
if_held_once None = None
if_held_once (Some s) = if are_held_once (held_in s) then Some s else None

-- ---- writing

abbrev pub has_few_branches : SessionEntry → Bool
has_few_branches e = nat_le (length e.session.branches) FIELD_ITEMS

-- a snapshot can be written where each transaction has at most 65,535 branches
abbrev pub can_write : Snapshot → Bool
can_write s = list_all has_few_branches s.sessions

pub record FitsParts (b : Branch) : Type 0 where
  pub resource : b.place.resource < 2 ^ 16
  pub call : b.place.call < 2 ^ 16
  pub ticket : FitsTicket b.place.ticket
  pub hold : FitsKeys b.hold

pub record FitsSession (e : SessionEntry) : Type 0 where
  pub manager : e.session.manager < 2 ^ 16
  pub begun : e.session.begun < 2 ^ 64
  pub timeout : e.session.timeout < 2 ^ 64
  pub failed : FitsFailure e.session.failed
  pub branches : Each FitsParts e.session.branches

pub record FitsGone (begun : ℕ) (f : Forgotten) : Type 0 where
  pub xid : f.xid.0 ≤ begun
  pub manager : f.manager < 2 ^ 16

-- it is none of the transactions that are known
abbrev pub IsUnknown : List SessionEntry → Forgotten → Type 0
IsUnknown es f = Each (λ e. e.xid.0 ≢ f.xid.0) es

-- all but the counts of lists has a place in a snapshot's bytes
pub record HasPlaces (s : Snapshot) : Type 0 where
  pub counted : IsCounted s
  pub sessions : Each FitsSession s.sessions
  pub gone : Each (FitsGone s.begun) s.forgotten
  pub rising : AreRising forgotten_xid s.forgotten
  pub apart : Each (IsUnknown s.sessions) s.forgotten

-- what is read has its places, each record that may come keeps them, and so a snapshot is written that has few branches
pub record KeepsPlaces (managers resources : ℕ) : Type 0 where
  pub read : (bytes : List ℕ) (s : Snapshot) → All (λ b. b < 256) bytes → if_held_once (if_sound managers resources (snapshot_in_bytes bytes)) ≡ Some s → HasPlaces s
  pub more : (s : Snapshot) (body : List ℕ) (r : SessionRecord) → All (λ b. b < 256) body → if_within managers resources (record_of body) ≡ Some r → may_come s r ≡ true → HasPlaces s → HasPlaces (after r s)
  pub fits : (s : Snapshot) → can_write s ≡ true → s.acts < ACTS → HasPlaces s → FitsSnapshot s

abbrev pub PlacesAreKept : Type 0
PlacesAreKept = (managers resources : ℕ) → KeepsPlaces managers resources
