-- Snapshots are read back in their layouts, and what is read as one stands there.
use Rattle.std.proofs.Common.{◌≡◌, ℕ, ◌+◌, ◌^◌, ◌<◌, Bool, Option, Some, None, List, [], ◌∷◌, ◌++◌, ◌≢◌, length, Ok, Err, refl}
use Rattle.std.specs.Int.{w16, w32, w64, to_be_bytes}
use Rattle.seata_types.specs.declared.ids.Xid.{Xid}
use Rattle.seata_types.specs.declared.ids.BranchId.{BranchId}
use Rattle.seata_types.specs.declared.ids.Ticket.{Ticket}
use Rattle.seata_types.specs.declared.rows.RowKey.{RowKey}
use Rattle.seata_types.specs.declared.statuses.BranchKind.{BranchKind}
use Rattle.seata_types.specs.declared.statuses.GlobalStatus.{GlobalStatus}
use Rattle.seata_types.specs.Statuses.{code_of}
use Rattle.byte_fields.specs.declared.errors.FieldError.{FieldError}
use Rattle.byte_fields.specs.declared.errors.FieldError.TheVariants as errors
use Rattle.byte_fields.specs.declared.layouts.KeyLayout.{KeyLayout}
use Rattle.byte_fields.specs.Layout.{FitsKeysIn, FitsTicket, FitsList, keys_bytes_in, ticket_bytes, list_bytes}
use Rattle.byte_fields.specs.Reading.{Position, gives, list_at}
use Rattle.byte_fields.specs.Exactness.{ReadsExactly}
use Rattle.byte_fields.proofs.Chains.{ReadsParts, part, last_part, no_part, whole}
use Rattle.byte_fields.proofs.Numbers.{two_bytes_exact, four_bytes_exact, eight_bytes_exact}
use Rattle.byte_fields.proofs.Records.{keys_exact, ticket_exact}
use Rattle.byte_fields.proofs.LongListLaws.{next_exact, long_list_exact}
use Rattle.byte_fields.proofs.Sequences.{list_exact}
use Rattle.byte_fields.specs.Parts.{xid_bytes, FitsXid, branch_bytes, FitsBranch, kind_code, truth_code}
use Rattle.byte_fields.proofs.Tables.{IsComplete, sound, tagged_exact}
use Rattle.byte_fields.proofs.PartLaws.{xid_exact, branch_exact, kind_exact, truth_exact, status_exact}
use Rattle.session_log.specs.declared.layouts.SnapshotLayout.{SnapshotLayout}
use Rattle.session_log.specs.declared.layouts.SnapshotLayout.TheVariants as layout
use Rattle.session_log.specs.declared.sessions.Branch.{Branch}
use Rattle.session_log.specs.declared.sessions.SessionEntry.{SessionEntry}
use Rattle.session_log.specs.declared.sessions.Forgotten.{Forgotten}
use Rattle.session_log.specs.declared.sessions.Snapshot.{Snapshot}
use Rattle.byte_fields.specs.Entire.{ReadsLayouts, IsOfLayouts}
use Rattle.session_log.specs.Layouts.{keys_of}
use Rattle.byte_fields.specs.LongLists.{next_item, long_list_bytes, FitsLongList, long_list_at}
use Rattle.session_log.specs.Snapshots.{branch_fields, FitsBranchIn, branch_in, branch_follows, failure_bytes, FitsFailure, some_failure_at, failure_at, entry_fields, FitsEntryIn, entry_in, entry_follows, forgotten_fields, FitsForgotten, forgotten_at, forgotten_follows, all_forgotten_bytes, FitsAllForgotten, all_forgotten_in, layout_code, snapshot_fields, snapshot_bytes_in, FitsSnapshotIn, snapshot_in, snapshots, snapshot_at, snapshot_in_bytes}
use Rattle.session_log.specs.declared.errors.SnapshotError.{SnapshotError}
use Rattle.session_log.specs.declared.errors.SnapshotError.TheVariants as refusals
use Rattle.session_log.specs.Soundness.{IsFaultOfSnapshot, FindsSnapshot}
use Rattle.byte_fields.proofs.LaidTables.{AreLaid, HasEach, laid, tagged_layouts, entire_layouts, entire_some, entire_longer, entire_none}

-- ---- branches

abbrev branch_made : BranchId × (ℕ × (ℕ × (Ticket × (BranchKind × (List RowKey × Bool))))) → Branch
branch_made t = record { id = t.0; place = record { resource = t.1.0; call = t.1.1.0; ticket = t.1.1.1.0; kind = t.1.1.1.1.0 }; hold = t.1.1.1.1.1.0; ended = t.1.1.1.1.1.1 }

branch_part : (keys : KeyLayout) → ReadsParts (branch_in keys) branch_made
    (λ t. branch_bytes t.0 ++ (to_be_bytes w16 t.1.0 ++ (to_be_bytes w16 t.1.1.0 ++ (ticket_bytes t.1.1.1.0 ++ ((kind_code t.1.1.1.1.0 ∷ []) ++ (keys_bytes_in keys t.1.1.1.1.1.0 ++ (truth_code t.1.1.1.1.1.1 ∷ [])))))))
    (λ t. FitsBranch t.0 × ((t.1.0 < 2 ^ 16) × ((t.1.1.0 < 2 ^ 16) × (FitsTicket t.1.1.1.0 × (Unit {0} × (FitsKeysIn keys t.1.1.1.1.1.0 × Unit {0}))))))
unfolding branch_in
branch_part keys = part branch_exact (λ id. part two_bytes_exact (λ resource. part two_bytes_exact (λ call. part ticket_exact (λ ticket. part kind_exact (λ kind. part (keys_exact keys) (λ hold. last_part (λ ended. branch_made (id, (resource, (call, (ticket, (kind, (hold, ended))))))) truth_exact))))))

branch_in_exact : (keys : KeyLayout) → ReadsExactly (branch_in keys) (branch_fields keys) (FitsBranchIn keys)
unfolding branch_fields
branch_in_exact keys = whole (branch_fields keys) (FitsBranchIn keys)
    (λ (b : Branch). (b.id, (b.place.resource, (b.place.call, (b.place.ticket, (b.place.kind, (b.hold, b.ended)))))))
    (branch_part keys) (λ b. refl) (λ b. refl) (λ t. refl)
    (λ b fits. (fits.id, (fits.resource, (fits.call, (fits.ticket, (tt, (fits.hold, tt)))))))
    (λ t fits. record { id = fits.0; resource = fits.1.0; call = fits.1.1.0; ticket = fits.1.1.1.0; hold = fits.1.1.1.1.1.0 })

-- ---- where a second phase failed

abbrev failure_tag : Option (BranchId × ℕ) → ℕ
failure_tag None = 0
failure_tag (Some failure) = 1

abbrev failure_rest : Option (BranchId × ℕ) → List ℕ
failure_rest None = []
failure_rest (Some failure) = branch_bytes failure.0 ++ to_be_bytes w16 failure.1

failure_laid : (f : Option (BranchId × ℕ)) → failure_bytes f ≡ failure_tag f ∷ failure_rest f
unfolding failure_bytes
failure_laid None = refl
failure_laid (Some failure) = refl

some_failure_part : ReadsParts some_failure_at (λ (t : BranchId × ℕ). Some (t.0, t.1)) (λ t. branch_bytes t.0 ++ to_be_bytes w16 t.1) (λ t. FitsBranch t.0 × (t.1 < 2 ^ 16))
unfolding some_failure_at
some_failure_part = part branch_exact (λ branch. last_part (λ stmt. Some (branch, stmt)) two_bytes_exact)

failure_complete : IsComplete failure_tag failure_rest FitsFailure ((0, gives None) ∷ (1, some_failure_at) ∷ [])
failure_complete None fits = (gives None, refl, λ at rest. (no_part None).back tt at rest tt)
failure_complete (Some failure) fits = (some_failure_at, refl, λ at rest. some_failure_part.back failure at rest fits)

failure_exact : ReadsExactly failure_at failure_bytes FitsFailure
unfolding failure_at
failure_exact =
    let law : ReadsExactly failure_at (λ f. failure_tag f ∷ failure_rest f) FitsFailure =
    tagged_exact failure_tag failure_rest FitsFailure ((0, gives None) ∷ (1, some_failure_at) ∷ []) failure_complete (
      sound failure_tag failure_rest FitsFailure 0 (no_part None) (λ u fits. tt) (λ u. refl) (λ u. refl),
      (sound failure_tag failure_rest FitsFailure 1 some_failure_part (λ t fits. fits) (λ t. refl) (λ t. refl), tt),
    ) in
    record {
      back = λ f at rest fits. rw (failure_laid f) (law.back f at rest fits);
      only = λ f place after all e.
          let found = law.only f place after all e in
          (found.0, rw (failure_laid f) found.1);
    }

-- ---- transactions

branches_exact : (keys : KeyLayout) → ReadsExactly (list_at (next_item branch_follows (branch_in keys))) (list_bytes (branch_fields keys)) (FitsList branch_follows (FitsBranchIn keys))
branches_exact keys = list_exact branch_follows (next_item branch_follows (branch_in keys)) (branch_fields keys) (FitsBranchIn keys)
    (next_exact branch_follows (branch_in keys) (branch_fields keys) (FitsBranchIn keys) (branch_in_exact keys))

abbrev entry_made : Xid × (ℕ × (ℕ × (ℕ × (GlobalStatus × (Option (BranchId × ℕ) × List Branch))))) → SessionEntry
entry_made t = record { xid = t.0; session = record { manager = t.1.0; begun = t.1.1.0; timeout = t.1.1.1.0; status = t.1.1.1.1.0; branches = t.1.1.1.1.1.1; failed = t.1.1.1.1.1.0 } }

entry_part : (keys : KeyLayout) → ReadsParts (entry_in keys) entry_made
    (λ t. xid_bytes t.0 ++ (to_be_bytes w16 t.1.0 ++ (to_be_bytes w64 t.1.1.0 ++ (to_be_bytes w64 t.1.1.1.0 ++ ((code_of t.1.1.1.1.0 ∷ []) ++ (failure_bytes t.1.1.1.1.1.0 ++ list_bytes (branch_fields keys) t.1.1.1.1.1.1))))))
    (λ t. FitsXid t.0 × ((t.1.0 < 2 ^ 16) × ((t.1.1.0 < 2 ^ 64) × ((t.1.1.1.0 < 2 ^ 64) × (Unit {0} × (FitsFailure t.1.1.1.1.1.0 × FitsList branch_follows (FitsBranchIn keys) t.1.1.1.1.1.1))))))
unfolding entry_in
entry_part keys = part xid_exact (λ xid. part two_bytes_exact (λ manager. part eight_bytes_exact (λ begun. part eight_bytes_exact (λ timeout. part status_exact (λ status. part failure_exact (λ failed. last_part (λ branches. entry_made (xid, (manager, (begun, (timeout, (status, (failed, branches))))))) (branches_exact keys)))))))

entry_in_exact : (keys : KeyLayout) → ReadsExactly (entry_in keys) (entry_fields keys) (FitsEntryIn keys)
unfolding entry_fields
entry_in_exact keys = whole (entry_fields keys) (FitsEntryIn keys)
    (λ (e : SessionEntry). (e.xid, (e.session.manager, (e.session.begun, (e.session.timeout, (e.session.status, (e.session.failed, e.session.branches)))))))
    (entry_part keys) (λ e. refl) (λ e. refl) (λ t. refl)
    (λ e fits. (fits.xid, (fits.manager, (fits.begun, (fits.timeout, (tt, (fits.failed, fits.branches)))))))
    (λ t fits. record { xid = fits.0; manager = fits.1.0; begun = fits.1.1.0; timeout = fits.1.1.1.0; failed = fits.1.1.1.1.1.0; branches = fits.1.1.1.1.1.1 })

entries_exact : (keys : KeyLayout) → ReadsExactly (long_list_at (next_item entry_follows (entry_in keys))) (long_list_bytes (entry_fields keys)) (FitsLongList entry_follows (FitsEntryIn keys))
entries_exact keys = long_list_exact entry_follows (next_item entry_follows (entry_in keys)) (entry_fields keys) (FitsEntryIn keys)
    (next_exact entry_follows (entry_in keys) (entry_fields keys) (FitsEntryIn keys) (entry_in_exact keys))

-- ---- forgotten transactions

forgotten_exact : ReadsExactly forgotten_at forgotten_fields FitsForgotten
unfolding forgotten_at forgotten_fields
forgotten_exact = whole forgotten_fields FitsForgotten (λ (f : Forgotten). (f.xid, f.manager))
    (part xid_exact (λ xid. last_part (λ manager. record { xid = xid; manager = manager }) two_bytes_exact))
    (λ f. refl) (λ f. refl) (λ t. refl)
    (λ f fits. (fits.xid, fits.manager))
    (λ t fits. record { xid = fits.0; manager = fits.1 })

none_exact : ReadsExactly (gives []) (λ (fs : List Forgotten). []) (λ fs. fs ≡ [])
none_exact = record {
  back = λ fs at rest fits. rw fits ((no_part []).back tt at rest tt);
  only = λ fs place after all e.
      let found = (no_part []).only fs place after all e in
      (found.1, found.3);
}

all_forgotten_exact : (how : SnapshotLayout) → ReadsExactly (all_forgotten_in how) (all_forgotten_bytes how) (FitsAllForgotten how)
unfolding all_forgotten_in all_forgotten_bytes
all_forgotten_exact layout.SingleKeys = none_exact
all_forgotten_exact layout.CountedKeys = none_exact
all_forgotten_exact layout.WithForgotten = long_list_exact forgotten_follows (next_item forgotten_follows forgotten_at) forgotten_fields FitsForgotten
    (next_exact forgotten_follows forgotten_at forgotten_fields FitsForgotten forgotten_exact)

-- ---- snapshots

abbrev snapshot_made : ℕ × (ℕ × (ℕ × (List SessionEntry × List Forgotten))) → Snapshot
snapshot_made t = record { acts = t.0; begun = t.1.0; granted = t.1.1.0; sessions = t.1.1.1.0; forgotten = t.1.1.1.1 }

snapshot_part : (how : SnapshotLayout) → ReadsParts (snapshot_in how) snapshot_made
    (λ t. to_be_bytes w32 t.0 ++ (to_be_bytes w64 t.1.0 ++ (to_be_bytes w64 t.1.1.0 ++ (long_list_bytes (entry_fields (keys_of how)) t.1.1.1.0 ++ all_forgotten_bytes how t.1.1.1.1))))
    (λ t. (t.0 < 2 ^ 32) × ((t.1.0 < 2 ^ 64) × ((t.1.1.0 < 2 ^ 64) × (FitsLongList entry_follows (FitsEntryIn (keys_of how)) t.1.1.1.0 × FitsAllForgotten how t.1.1.1.1))))
unfolding snapshot_in
snapshot_part how = part four_bytes_exact (λ acts. part eight_bytes_exact (λ begun. part eight_bytes_exact (λ granted. part (entries_exact (keys_of how)) (λ sessions. last_part (λ forgotten. snapshot_made (acts, (begun, (granted, (sessions, forgotten))))) (all_forgotten_exact how)))))

abbrev layout_tag : SnapshotLayout → Snapshot → ℕ
layout_tag how s = layout_code how

behind_layout : (how : SnapshotLayout) (s : Snapshot) (at : ℕ) (rest : List ℕ) → FitsSnapshotIn how s → snapshot_in how (record { at = at; rest = snapshot_fields how s ++ rest }) ≡ Ok (s, record { at = at + length (snapshot_fields how s); rest = rest })
unfolding snapshot_fields
behind_layout how s at rest fits = (snapshot_part how).back (s.acts, (s.begun, (s.granted, (s.sessions, s.forgotten)))) at rest (fits.acts, (fits.begun, (fits.granted, (fits.sessions, fits.forgotten))))

snapshots_have : HasEach layout_tag snapshot_fields FitsSnapshotIn snapshots
snapshots_have layout.SingleKeys s fits = (snapshot_in layout.SingleKeys, refl, λ at rest. behind_layout layout.SingleKeys s at rest fits)
snapshots_have layout.CountedKeys s fits = (snapshot_in layout.CountedKeys, refl, λ at rest. behind_layout layout.CountedKeys s at rest fits)
snapshots_have layout.WithForgotten s fits = (snapshot_in layout.WithForgotten, refl, λ at rest. behind_layout layout.WithForgotten s at rest fits)

snapshots_laid : AreLaid layout_tag snapshot_fields FitsSnapshotIn snapshots
unfolding snapshot_fields
snapshots_laid = (
  laid layout_tag snapshot_fields FitsSnapshotIn layout.SingleKeys 1 (snapshot_part layout.SingleKeys) (λ t fits. record { acts = fits.0; begun = fits.1.0; granted = fits.1.1.0; sessions = fits.1.1.1.0; forgotten = fits.1.1.1.1 }) (λ t. refl) (λ t. refl),
  (
    laid layout_tag snapshot_fields FitsSnapshotIn layout.CountedKeys 2 (snapshot_part layout.CountedKeys) (λ t fits. record { acts = fits.0; begun = fits.1.0; granted = fits.1.1.0; sessions = fits.1.1.1.0; forgotten = fits.1.1.1.1 }) (λ t. refl) (λ t. refl),
    (
      laid layout_tag snapshot_fields FitsSnapshotIn layout.WithForgotten 3 (snapshot_part layout.WithForgotten) (λ t fits. record { acts = fits.0; begun = fits.1.0; granted = fits.1.1.0; sessions = fits.1.1.1.0; forgotten = fits.1.1.1.1 }) (λ t. refl) (λ t. refl),
      tt,
    ),
  ),
)

snapshot_layouts : ReadsLayouts snapshot_at snapshot_bytes_in FitsSnapshotIn
unfolding snapshot_at
snapshot_layouts = tagged_layouts layout_tag snapshot_fields FitsSnapshotIn snapshots snapshots_have snapshots_laid

pub snapshots_are_of_layouts : IsOfLayouts snapshot_in_bytes snapshot_bytes_in FitsSnapshotIn
unfolding snapshot_in_bytes
snapshots_are_of_layouts = entire_layouts snapshot_at snapshot_bytes_in FitsSnapshotIn snapshot_layouts

pub snapshot_fault : (bytes : List ℕ) (start : Position) (fault : FieldError) (e : SnapshotError) → start ≡ record { at = 0; rest = bytes } → (fault ≢ errors.NoMemory → snapshot_at start ≡ Err fault) → IsFaultOfSnapshot fault e → FindsSnapshot (snapshot_in_bytes bytes) (Err e)
unfolding snapshot_in_bytes
snapshot_fault bytes start fault refusals.Damaged is read why = entire_none snapshot_at bytes start fault is (read why)
snapshot_fault bytes start fault refusals.NoMemory is read why = tt

pub snapshot_some : (bytes : List ℕ) (start : Position) (s : Snapshot) (after : Position) → start ≡ record { at = 0; rest = bytes } → snapshot_at start ≡ Ok (s, after) → after.at ≡ length bytes → snapshot_in_bytes bytes ≡ Some s
unfolding snapshot_in_bytes
snapshot_some bytes start s after is read last = entire_some snapshot_at bytes start s after is read last

pub snapshot_none : (bytes : List ℕ) (start : Position) (s : Snapshot) (after : Position) → start ≡ record { at = 0; rest = bytes } → snapshot_at start ≡ Ok (s, after) → (after.at ≡ length bytes → ⊥) → snapshot_in_bytes bytes ≡ None
unfolding snapshot_in_bytes
snapshot_none bytes start s after is read other = entire_longer snapshot_at bytes start s after is read other
