-- The bytes of a snapshot: its layout, its counts, and what is known of transactions.
use Rattle.std.specs.Prelude.{◌≡◌, ℕ, ◌<◌, ◌^◌, Bool, nat_lt, Option, Some, None, List, [], ◌∷◌, ◌++◌}
use Rattle.std.specs.Int.{w16, w32, w64, to_be_bytes}
use Rattle.seata_types.specs.declared.ids.BranchId.{BranchId}
use Rattle.seata_types.specs.Statuses.{code_of}
use Rattle.byte_fields.specs.declared.layouts.KeyLayout.{KeyLayout}
use Rattle.byte_fields.specs.Layout.{FitsKeysIn, FitsTicket, FitsList, keys_bytes_in, ticket_bytes, list_bytes}
use Rattle.byte_fields.specs.Reading.{Reader, ◌>>=◌, gives, number_at, keys_in, ticket_at, list_at}
use Rattle.byte_fields.specs.Tags.{tagged}
use Rattle.byte_fields.specs.Parts.{joined, xid_bytes, FitsXid, xid_at, branch_bytes, FitsBranch, branch_at, kind_code, kind_at, truth_code, truth_at, status_at}
use Rattle.session_log.specs.declared.layouts.SnapshotLayout.{SnapshotLayout}
use Rattle.session_log.specs.declared.layouts.SnapshotLayout.TheVariants as layout
use Rattle.session_log.specs.declared.sessions.Branch.{Branch}
use Rattle.session_log.specs.declared.sessions.SessionEntry.{SessionEntry}
use Rattle.session_log.specs.declared.sessions.Forgotten.{Forgotten}
use Rattle.session_log.specs.declared.sessions.Snapshot.{Snapshot}
use Rattle.session_log.specs.Layouts.{keys_of}
use Rattle.byte_fields.specs.Entire.{entire}
use Rattle.byte_fields.specs.LongLists.{next_item, long_list_bytes, FitsLongList, long_list_at}

-- ---- branches, in order of their numbers

unfoldable pub branch_fields : KeyLayout → Branch → List ℕ
branch_fields keys b =
    joined (branch_bytes b.id ∷ to_be_bytes w16 b.place.resource ∷ to_be_bytes w16 b.place.call ∷ ticket_bytes b.place.ticket ∷
    (kind_code b.place.kind ∷ []) ∷ keys_bytes_in keys b.hold ∷ (truth_code b.ended ∷ []) ∷ [])

pub record FitsBranchIn (keys : KeyLayout) (b : Branch) : Type 0 where
  pub id : FitsBranch b.id
  pub resource : b.place.resource < 2 ^ 16
  pub call : b.place.call < 2 ^ 16
  pub ticket : FitsTicket b.place.ticket
  pub hold : FitsKeysIn keys b.hold

unfoldable pub branch_in : KeyLayout → Reader Branch
branch_in keys = do
  id ← branch_at
  resource ← number_at w16
  call ← number_at w16
  ticket ← ticket_at
  kind ← kind_at
  hold ← keys_in keys
  ended ← truth_at
  gives (record {
    id = id;
    place = record { resource = resource; call = call; ticket = ticket; kind = kind };
    hold = hold;
    ended = ended;
  })

abbrev pub branch_follows : Branch → Branch → Bool
branch_follows last b = nat_lt last.id.0 b.id.0

-- ---- where a second phase failed: 0 where it didn't, or 1, the branch and the statement

unfoldable pub failure_bytes : Option (BranchId × ℕ) → List ℕ
failure_bytes None = 0 ∷ []
failure_bytes (Some failure) = 1 ∷ (branch_bytes failure.0 ++ to_be_bytes w16 failure.1)

abbrev pub FitsFailure : Option (BranchId × ℕ) → Type 0
FitsFailure None = Unit {0}
FitsFailure (Some failure) = FitsBranch failure.0 × (failure.1 < 2 ^ 16)

unfoldable pub some_failure_at : Reader (Option (BranchId × ℕ))
some_failure_at = do
  branch ← branch_at
  stmt ← number_at w16
  gives (Some (branch, stmt))

unfoldable pub failure_at : Reader (Option (BranchId × ℕ))
failure_at = tagged ((0, gives None) ∷ (1, some_failure_at) ∷ [])

-- ---- transactions, in order of their numbers

unfoldable pub entry_fields : KeyLayout → SessionEntry → List ℕ
entry_fields keys e =
    joined (xid_bytes e.xid ∷ to_be_bytes w16 e.session.manager ∷ to_be_bytes w64 e.session.begun ∷ to_be_bytes w64 e.session.timeout ∷
    (code_of e.session.status ∷ []) ∷ failure_bytes e.session.failed ∷ list_bytes (branch_fields keys) e.session.branches ∷ [])

pub record FitsEntryIn (keys : KeyLayout) (e : SessionEntry) : Type 0 where
  pub xid : FitsXid e.xid
  pub manager : e.session.manager < 2 ^ 16
  pub begun : e.session.begun < 2 ^ 64
  pub timeout : e.session.timeout < 2 ^ 64
  pub failed : FitsFailure e.session.failed
  pub branches : FitsList branch_follows (FitsBranchIn keys) e.session.branches

unfoldable pub entry_in : KeyLayout → Reader SessionEntry
entry_in keys = do
  xid ← xid_at
  manager ← number_at w16
  begun ← number_at w64
  timeout ← number_at w64
  status ← status_at
  failed ← failure_at
  branches ← list_at (next_item branch_follows (branch_in keys))
  gives (record {
    xid = xid;
    session = record { manager = manager; begun = begun; timeout = timeout; status = status; branches = branches; failed = failed };
  })

abbrev pub entry_follows : SessionEntry → SessionEntry → Bool
entry_follows last e = nat_lt last.xid.0 e.xid.0

-- ---- forgotten transactions, in order of their numbers; older layouts have none

unfoldable pub forgotten_fields : Forgotten → List ℕ
forgotten_fields f = xid_bytes f.xid ++ to_be_bytes w16 f.manager

pub record FitsForgotten (f : Forgotten) : Type 0 where
  pub xid : FitsXid f.xid
  pub manager : f.manager < 2 ^ 16

unfoldable pub forgotten_at : Reader Forgotten
forgotten_at = do
  xid ← xid_at
  manager ← number_at w16
  gives (record { xid = xid; manager = manager })

abbrev pub forgotten_follows : Forgotten → Forgotten → Bool
forgotten_follows last f = nat_lt last.xid.0 f.xid.0

unfoldable pub all_forgotten_bytes : SnapshotLayout → List Forgotten → List ℕ
all_forgotten_bytes layout.SingleKeys fs = []
all_forgotten_bytes layout.CountedKeys fs = []
all_forgotten_bytes layout.WithForgotten fs = long_list_bytes forgotten_fields fs

abbrev pub FitsAllForgotten : SnapshotLayout → List Forgotten → Type 0
FitsAllForgotten layout.SingleKeys fs = fs ≡ []
FitsAllForgotten layout.CountedKeys fs = fs ≡ []
FitsAllForgotten layout.WithForgotten fs = FitsLongList forgotten_follows FitsForgotten fs

unfoldable pub all_forgotten_in : SnapshotLayout → Reader (List Forgotten)
all_forgotten_in layout.SingleKeys = gives []
all_forgotten_in layout.CountedKeys = gives []
all_forgotten_in layout.WithForgotten = long_list_at (next_item forgotten_follows forgotten_at)

-- ---- snapshots

abbrev pub layout_code : SnapshotLayout → ℕ
layout_code layout.SingleKeys = 1
layout_code layout.CountedKeys = 2
layout_code layout.WithForgotten = 3

unfoldable pub snapshot_fields : SnapshotLayout → Snapshot → List ℕ
snapshot_fields how s =
    joined (to_be_bytes w32 s.acts ∷ to_be_bytes w64 s.begun ∷ to_be_bytes w64 s.granted ∷
    long_list_bytes (entry_fields (keys_of how)) s.sessions ∷ all_forgotten_bytes how s.forgotten ∷ [])

abbrev pub snapshot_bytes_in : SnapshotLayout → Snapshot → List ℕ
snapshot_bytes_in how s = layout_code how ∷ snapshot_fields how s

pub record FitsSnapshotIn (how : SnapshotLayout) (s : Snapshot) : Type 0 where
  pub acts : s.acts < 2 ^ 32
  pub begun : s.begun < 2 ^ 64
  pub granted : s.granted < 2 ^ 64
  pub sessions : FitsLongList entry_follows (FitsEntryIn (keys_of how)) s.sessions
  pub forgotten : FitsAllForgotten how s.forgotten

unfoldable pub snapshot_in : SnapshotLayout → Reader Snapshot
snapshot_in how = do
  acts ← number_at w32
  begun ← number_at w64
  granted ← number_at w64
  sessions ← long_list_at (next_item entry_follows (entry_in (keys_of how)))
  forgotten ← all_forgotten_in how
  gives (record { acts = acts; begun = begun; granted = granted; sessions = sessions; forgotten = forgotten })

-- what stands behind the number of a layout
abbrev pub snapshots : List (ℕ × Reader Snapshot)
snapshots = (1, snapshot_in layout.SingleKeys) ∷ (2, snapshot_in layout.CountedKeys) ∷ (3, snapshot_in layout.WithForgotten) ∷ []

unfoldable pub snapshot_at : Reader Snapshot
snapshot_at = tagged snapshots

-- the snapshot that the bytes are
unfoldable pub snapshot_in_bytes : List ℕ → Option Snapshot
snapshot_in_bytes bytes = entire snapshot_at bytes

-- the layout that is written
abbrev pub snapshot_bytes : Snapshot → List ℕ
snapshot_bytes s = snapshot_bytes_in layout.WithForgotten s

abbrev pub FitsSnapshot : Snapshot → Type 0
FitsSnapshot s = FitsSnapshotIn layout.WithForgotten s
