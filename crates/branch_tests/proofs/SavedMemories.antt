-- A memory of few records can be saved, and a snapshot that is read is sound.
use Rattle.std.proofs.Common.{◌≡◌, ℕ, ◌≤◌, ◌^◌, length, Bool, true, false, if◌then◌else◌, List, [], IsSome, Option, Some, None, refl, sym, subst, arith}
use Rattle.std.specs.List.{IsDistinct}
use Rattle.std.proofs.lemmas.List.Elements.{All-nil}
use Rattle.std.proofs.lemmas.Bool.{and_parts, ltb-true}
use Rattle.seata_types.specs.declared.rows.Row.{Row}
use Rattle.local_tables.specs.Rows.{IsOpening, keyed_row}
use Rattle.local_tables.specs.declared.schemas.Schema.{Schema}
use Rattle.durable_records.proofs.Tests.{none_some}
use Rattle.resource_log.specs.Snapshots.{FitsSnapshot}
use Rattle.resource_log.specs.Soundness.{is_sound, if_sound}
use Rattle.resource_log.specs.declared.states.ResourceSnapshot.{ResourceSnapshot}
use Rattle.resource_memory.specs.Keeping.{HasCounts, has_room}
use Rattle.resource_memory.specs.Known.{Known}
use Rattle.resource_memory.specs.Snapshots.{snapshot_in}
use Rattle.resource_memory.proofs.Saved.{saves_known}
use Rattle.branch_tests.specs.Saving.{CanBeSaved}

-- ---- no rows

pub no_rows : (resource : ℕ) (schema : Schema) (opening : List (List ℕ × Row)) → opening ≡ [] → IsOpening resource schema opening
unfolding IsDistinct
no_rows resource schema opening e =
    let none : IsOpening resource schema [] = record { each = All-nil (λ o. IsSome (keyed_row resource schema o)); different = tt } in
    subst (IsOpening resource schema) (sym e) none

-- ---- the snapshot of few records

has_counts : (k : Known) → k.acts ≤ 100 → has_room k ≡ true → HasCounts k
has_counts k few room =
    let one = and_parts _ _ room in
    let two = and_parts _ _ one.1 in
    record { acts = omega (arith, few); rows = ltb-true (length k.tables.rows) (2 ^ 32) one.0; undos = ltb-true (length k.undo_log) (2 ^ 32) two.0; fences = ltb-true (length k.fences) (2 ^ 32) two.1 }

pub can_be_written : (k : Known) → CanBeSaved k → k.acts ≤ 100 → has_room k ≡ true → FitsSnapshot (snapshot_in k)
can_be_written k saved few room = (saves_known k saved.0 saved.1 (has_counts k few room)).fits

pub sound_is : (resource : ℕ) (schema : Schema) (o : Option ResourceSnapshot) (s : ResourceSnapshot) → if_sound resource schema o ≡ Some s → is_sound resource schema s ≡ true
sound_is resource schema None s e = none_some e
sound_is resource schema (Some q) s e = by (is_sound resource schema q) refl e
  where
    by : (b : Bool) → is_sound resource schema q ≡ b → (if b then Some q else None) ≡ Some s → is_sound resource schema s ≡ true
    by true is e = let same : q ≡ s = cc in subst (λ (z : ResourceSnapshot). is_sound resource schema z ≡ true) same is
    by false is e = none_some e
