-- The parts of a snapshot, appended one after the other, are its fields.
use Rattle.std.proofs.Common.{◌≡◌, ℕ, List, [], ◌∷◌, ◌++◌, append_assoc}
use Rattle.std.specs.Int.{w32, w64, to_be_bytes}
use Rattle.byte_fields.specs.declared.layouts.KeyLayout.TheVariants as key
use Rattle.byte_fields.specs.Parts.{joined}
use Rattle.session_log.specs.declared.layouts.SnapshotLayout.TheVariants as layout
use Rattle.session_log.specs.declared.sessions.SessionEntry.{SessionEntry}
use Rattle.session_log.specs.declared.sessions.Forgotten.{Forgotten}
use Rattle.session_log.specs.declared.sessions.Snapshot.{Snapshot}
use Rattle.byte_fields.specs.LongLists.{long_list_bytes}
use Rattle.session_log.specs.Snapshots.{entry_fields, all_forgotten_bytes, snapshot_fields}

regroup : (out counts entries forgotten : List ℕ) → ((out ++ counts) ++ entries) ++ forgotten ≡ out ++ (counts ++ (entries ++ forgotten))
regroup out counts entries forgotten = simp append_assoc

pub are_fields : (out first second third : List ℕ) (s : Snapshot) (entries : List SessionEntry) (all : List Forgotten) →
    first ≡ out ++ joined (to_be_bytes w32 s.acts ∷ to_be_bytes w64 s.begun ∷ to_be_bytes w64 s.granted ∷ []) → entries ≡ s.sessions → all ≡ s.forgotten →
    second ≡ first ++ long_list_bytes (entry_fields key.Counted) entries → third ≡ second ++ all_forgotten_bytes layout.WithForgotten all → third ≡ out ++ snapshot_fields layout.WithForgotten s
unfolding snapshot_fields
are_fields out first second third s entries all counts same_entries same_all two three =
    rw (three, two, counts, same_entries, same_all) (regroup out (joined (to_be_bytes w32 s.acts ∷ to_be_bytes w64 s.begun ∷ to_be_bytes w64 s.granted ∷ [])) (long_list_bytes (entry_fields key.Counted) s.sessions) (all_forgotten_bytes layout.WithForgotten s.forgotten))
