-- What the two disks keep, said of each pair of images and through the calls on one of them, and where their journal stands.
use Rattle.std.proofs.Common.{◌≡◌, Bool, ℕ, ◌+◌, ap, ◌∙◌, inl, arith}
use Rattle.std.specs.Prelude.{not, List, [], ◌∷◌, ◌++◌, length, option_map}
use Rattle.disk_model.specs.Disk.{DiskState, IsLawful, Leaves}
use Rattle.disk_model.proofs.Calls.{leaves_same}
use Rattle.disk_journal.specs.declared.layout.TheConstants.{RECORD_HEAD_BYTES}
use Rattle.disk_journal.specs.declared.journal.Journal.{Journal}
use Rattle.disk_journal.specs.Journals.{from_of, end_of, Keeps}
use Rattle.disk_journal.specs.Keeping.{StandsFor, AddsAtMost, SameFront}
use Rattle.disk_journal.specs.Reading.{row_length}
use Rattle.disk_journal.proofs.Rows.{row_length-append}
use Rattle.journal_checkpoint.specs.declared.layout.TheConstants.{SNAPSHOT_HEAD_BYTES}
use Rattle.journal_checkpoint.specs.declared.types.Found.{Found}
use Rattle.journal_checkpoint.specs.declared.twin.Twin.{Twin}
use Rattle.journal_checkpoint.specs.Pairs.{begins_at}
use Rattle.journal_checkpoint.specs.Images.{LeavesPairs, Either, PairStandsFor, IsActiveDisk, IsOldOrFresh, only_snapshot, with_record}
use Rattle.journal_checkpoint.specs.Ends.{row_end}
use Rattle.journal_checkpoint.specs.Extents.{Extent, extent_of, longer, on_snapshot}
use Rattle.journal_checkpoint.specs.Keeping.{KeepsPair, active_disk, other_disk, disks, ordered, twin_extent}
use Rattle.journal_checkpoint.proofs.Twins.{is_passive, still_pairs, checkpoint_pairs, still_active, append_pairs, same_pairs}

-- ---- where it stands

-- a journal on this side, behind a snapshot of this generation
abbrev pub there : {D : Type 0} → Bool → ℕ → Journal D → Extent
there second g journal = record { second = second; generation = g; begins = from_of journal; end = end_of journal }

-- with the records of what was found
pub stands_at : {D : Type 0} (state : D → DiskState) (found : Found) (second : Bool) (g : ℕ) (journal : Journal D) → second ≡ found.second → g ≡ found.generation → from_of journal ≡ begins_at (option_map length found.snapshot)
    → Keeps state found.records journal → there second g journal ≡ extent_of found
stands_at state found second g journal side young begins keeps = λ i. record { second = side i; generation = young i; begins = begins i; end = (keeps.end ∙ ap (λ n. n + row_length found.records) begins) i }

-- what was found, with one record more
pub found_behind : (found : Found) (body : List ℕ) → extent_of (with_record found body) ≡ longer (length body) (extent_of found)
found_behind found body =
    let more : row_end (with_record found body) ≡ row_end found + length body + RECORD_HEAD_BYTES = omega (arith, row_length-append found.records (body ∷ [])) in
    λ i. record (extent_of found) { end = more i }

-- with one record more
pub stands_behind : {D : Type 0} (old : Twin D) (journal : Journal D) (body : ℕ) → from_of journal ≡ from_of old.journal → end_of journal ≡ end_of old.journal + body + RECORD_HEAD_BYTES
    → there old.second old.generation journal ≡ longer body (twin_extent old)
stands_behind old journal body begins end = λ i. record { second = old.second; generation = old.generation; begins = begins i; end = end i }

-- on the other disk, behind a snapshot of so many bytes
pub stands_there : {D : Type 0} (old : Twin D) (journal : Journal D) (count : ℕ) → from_of journal ≡ SNAPSHOT_HEAD_BYTES + count → end_of journal ≡ SNAPSHOT_HEAD_BYTES + count
    → there (not old.second) (old.generation + 1) journal ≡ on_snapshot count (twin_extent old)
stands_there old journal count begins end = λ i. record { second = not old.second; generation = old.generation + 1; begins = begins i; end = end i }

-- ---- what they keep

module _ {D : Type 0} (state : D → DiskState) (law : (d : D) → IsLawful (state d)) (found : Found) (t : Twin D) (keeps : KeepsPair state found t) where
  second_kept : t.second ≡ found.second
  second_kept = ap (λ (e : Extent). e.second) keeps.extent

  generation_kept : t.generation ≡ found.generation
  generation_kept = ap (λ (e : Extent). e.generation) keeps.extent

  begins_kept : from_of t.journal ≡ begins_at (option_map length found.snapshot)
  begins_kept = ap (λ (e : Extent). e.begins) keeps.extent

  pub kept_pairs : LeavesPairs (disks state t) (disks state t) (PairStandsFor found)
  kept_pairs = still_pairs t.second t.generation (from_of t.journal) found second_kept generation_kept t.other_open keeps.side (law (active_disk t)) (law (other_disk t)) keeps.active keeps.journal.disk.images keeps.passive

  -- the other disk stays as it was
  pub other_still : (s : List ℕ) → Leaves (state (other_disk t)) (state (other_disk t)) (IsOldOrFresh t.generation s)
  other_still s = leaves_same (λ d left. inl (is_passive t.generation t.other_open d (keeps.passive d left)))

  -- it was called for a checkpoint
  pub kept_or_fresh : (s : List ℕ) {other : DiskState} → Leaves (state (other_disk t)) other (IsOldOrFresh t.generation s) → LeavesPairs (disks state t) (ordered t.second (state (active_disk t)) other) (Either found (only_snapshot found s))
  kept_or_fresh = checkpoint_pairs t.second t.generation (from_of t.journal) found second_kept generation_kept t.other_open keeps.side (law (active_disk t)) (law (other_disk t)) keeps.active keeps.journal.disk.images keeps.passive

  -- the active disk was called to take a record
  module _ {active : DiskState} (front : Leaves (state (active_disk t)) active (SameFront (from_of t.journal) (state (active_disk t)).may_leave)) where
    pub active_kept : (c : List ℕ) → active.may_leave c → IsActiveDisk t.generation (from_of t.journal) found.snapshot c
    active_kept = still_active t.second t.generation (from_of t.journal) found second_kept generation_kept t.other_open keeps.side (law (active_disk t)) (law (other_disk t)) keeps.active keeps.journal.disk.images keeps.passive front

    pub kept_or_added : (body : List ℕ) → AddsAtMost (from_of t.journal) found.records body (state (active_disk t)) active → LeavesPairs (disks state t) (ordered t.second active (state (other_disk t))) (Either found (with_record found body))
    kept_or_added = append_pairs t.second t.generation (from_of t.journal) found second_kept generation_kept t.other_open keeps.side (law (active_disk t)) (law (other_disk t)) keeps.active keeps.journal.disk.images keeps.passive front

    pub kept_alone : Leaves (state (active_disk t)) active (StandsFor (from_of t.journal) found.records) → LeavesPairs (disks state t) (ordered t.second active (state (other_disk t))) (PairStandsFor found)
    kept_alone = same_pairs t.second t.generation (from_of t.journal) found second_kept generation_kept t.other_open keeps.side (law (active_disk t)) (law (other_disk t)) keeps.active keeps.journal.disk.images keeps.passive front

  -- with a record behind the others
  pub kept_more : (journal : Journal D) (body : List ℕ) → from_of journal ≡ from_of t.journal → Keeps state (found.records ++ body ∷ []) journal → there t.second t.generation journal ≡ extent_of (with_record found body)
  kept_more journal body begins more = stands_at state (with_record found body) t.second t.generation journal second_kept generation_kept (begins ∙ begins_kept) more

  -- with a snapshot on the other disk in their place
  pub kept_there : (journal : Journal D) (s : List ℕ) → from_of journal ≡ SNAPSHOT_HEAD_BYTES + length s → Keeps state [] journal → there (not t.second) (t.generation + 1) journal ≡ extent_of (only_snapshot found s)
  kept_there journal s begins none = stands_at state (only_snapshot found s) (not t.second) (t.generation + 1) journal (ap not second_kept) (ap (λ (n : ℕ). n + 1) generation_kept) begins none
