-- Each record is read back in its layouts, and what is read as one stands there.
use Rattle.std.proofs.Common.{◌≡◌, ℕ, ◌^◌, ◌<◌, ◌≢◌, Some, None, List, [], ◌∷◌, ◌++◌, length, Ok, Err, refl}
use Rattle.std.specs.Int.{w16, w64, to_be_bytes}
use Rattle.seata_types.specs.declared.ids.Xid.{Xid}
use Rattle.seata_types.specs.declared.ids.BranchId.{BranchId}
use Rattle.seata_types.specs.declared.ids.Ticket.{Ticket}
use Rattle.seata_types.specs.declared.rows.RowKey.{RowKey}
use Rattle.seata_types.specs.declared.statuses.BranchKind.{BranchKind}
use Rattle.seata_types.specs.declared.statuses.Decision.{Decision}
use Rattle.seata_types.specs.declared.statuses.Decision.TheVariants as how
use Rattle.byte_fields.specs.declared.layouts.KeyLayout.{KeyLayout}
use Rattle.byte_fields.specs.declared.layouts.KeyLayout.TheVariants as layout
use Rattle.byte_fields.specs.Layout.{FitsKeysIn, FitsTicket, keys_bytes_in, ticket_bytes}
use Rattle.byte_fields.specs.declared.errors.FieldError.{FieldError}
use Rattle.byte_fields.specs.declared.errors.FieldError.TheVariants as field
use Rattle.byte_fields.specs.Reading.{Position, gives}
use Rattle.byte_fields.specs.Exactness.{ReadsExactly}
use Rattle.byte_fields.proofs.Chains.{ReadsParts, part, last_part}
use Rattle.byte_fields.proofs.Numbers.{two_bytes_exact, eight_bytes_exact}
use Rattle.byte_fields.proofs.Records.{keys_exact, ticket_exact}
use Rattle.byte_fields.specs.Tags.{look_up}
use Rattle.byte_fields.specs.Parts.{xid_bytes, FitsXid, branch_bytes, FitsBranch, kind_code}
use Rattle.byte_fields.proofs.StatusCodes.{by_code}
use Rattle.byte_fields.proofs.Tables.{coded_exact}
use Rattle.byte_fields.proofs.PartLaws.{xid_exact, branch_exact, kind_exact}
use Rattle.durable_records.specs.declared.coordinators.SessionRecord.{SessionRecord}
use Rattle.durable_records.specs.declared.coordinators.SessionRecord.TheVariants as log
use Rattle.session_log.specs.declared.errors.RecordError.{RecordError}
use Rattle.session_log.specs.declared.errors.RecordError.TheVariants as errors
use Rattle.byte_fields.specs.Entire.{ReadsLayouts, IsOfLayouts}
use Rattle.session_log.specs.Records.{decision_code, decision_at, record_tag, fields_bytes, record_bytes_in, FitsRecordIn, begun_at, granted_at, decided_at, retrying_at, ended_at, failed_at, finished_at, forgot_at, records, record_at, record_of, IsFaultOfRecord, ReadsRecord}
use Rattle.byte_fields.proofs.LaidTables.{AreLaid, HasEach, laid, tagged_layouts, entire_layouts, entire_some, entire_longer, entire_none}

decision_found : (x : Decision) → look_up (decision_code x) (by_code decision_code (how.Commit ∷ how.Rollback ∷ how.Timeout ∷ [])) ≡ Some (gives x)
decision_found how.Commit = refl
decision_found how.Rollback = refl
decision_found how.Timeout = refl

decision_exact : ReadsExactly decision_at (λ x. decision_code x ∷ []) (λ x. Unit {0})
unfolding decision_at
decision_exact = coded_exact decision_code (how.Commit ∷ how.Rollback ∷ how.Timeout ∷ []) decision_found

begun_part : ReadsParts begun_at (λ (t : Xid × (ℕ × (ℕ × ℕ))). log.Begun t.0 t.1.0 t.1.1.0 t.1.1.1)
    (λ t. xid_bytes t.0 ++ (to_be_bytes w16 t.1.0 ++ (to_be_bytes w64 t.1.1.0 ++ to_be_bytes w64 t.1.1.1)))
    (λ t. FitsXid t.0 × ((t.1.0 < 2 ^ 16) × ((t.1.1.0 < 2 ^ 64) × (t.1.1.1 < 2 ^ 64))))
unfolding begun_at
begun_part = part xid_exact (λ xid. part two_bytes_exact (λ manager. part eight_bytes_exact (λ begun. last_part (λ timeout. log.Begun xid manager begun timeout) eight_bytes_exact)))

granted_part : (keys : KeyLayout) → ReadsParts (granted_at keys) (λ (t : Xid × (BranchId × (ℕ × (ℕ × (Ticket × (BranchKind × List RowKey)))))). log.Granted t.0 t.1.0 t.1.1.0 t.1.1.1.0 t.1.1.1.1.0 t.1.1.1.1.1.0 t.1.1.1.1.1.1)
    (λ t. xid_bytes t.0 ++ (branch_bytes t.1.0 ++ (to_be_bytes w16 t.1.1.0 ++ (to_be_bytes w16 t.1.1.1.0 ++ (ticket_bytes t.1.1.1.1.0 ++ ((kind_code t.1.1.1.1.1.0 ∷ []) ++ keys_bytes_in keys t.1.1.1.1.1.1))))))
    (λ t. FitsXid t.0 × (FitsBranch t.1.0 × ((t.1.1.0 < 2 ^ 16) × ((t.1.1.1.0 < 2 ^ 16) × (FitsTicket t.1.1.1.1.0 × (Unit {0} × FitsKeysIn keys t.1.1.1.1.1.1))))))
unfolding granted_at
granted_part keys = part xid_exact (λ xid. part branch_exact (λ branch. part two_bytes_exact (λ resource. part two_bytes_exact (λ call. part ticket_exact (λ ticket. part kind_exact (λ kind. last_part (λ hold. log.Granted xid branch resource call ticket kind hold) (keys_exact keys)))))))

decided_part : ReadsParts decided_at (λ (t : Xid × Decision). log.Decided t.0 t.1) (λ t. xid_bytes t.0 ++ (decision_code t.1 ∷ [])) (λ t. FitsXid t.0 × Unit {0})
unfolding decided_at
decided_part = part xid_exact (λ xid. last_part (λ decision. log.Decided xid decision) decision_exact)

retrying_part : ReadsParts retrying_at log.Retrying xid_bytes FitsXid
unfolding retrying_at
retrying_part = last_part (λ xid. log.Retrying xid) xid_exact

ended_part : ReadsParts ended_at (λ (t : Xid × BranchId). log.Ended t.0 t.1) (λ t. xid_bytes t.0 ++ branch_bytes t.1) (λ t. FitsXid t.0 × FitsBranch t.1)
unfolding ended_at
ended_part = part xid_exact (λ xid. last_part (λ branch. log.Ended xid branch) branch_exact)

failed_part : ReadsParts failed_at (λ (t : Xid × (BranchId × ℕ)). log.Failed t.0 t.1.0 t.1.1)
    (λ t. xid_bytes t.0 ++ (branch_bytes t.1.0 ++ to_be_bytes w16 t.1.1)) (λ t. FitsXid t.0 × (FitsBranch t.1.0 × (t.1.1 < 2 ^ 16)))
unfolding failed_at
failed_part = part xid_exact (λ xid. part branch_exact (λ branch. last_part (λ stmt. log.Failed xid branch stmt) two_bytes_exact))

finished_part : ReadsParts finished_at log.Finished xid_bytes FitsXid
unfolding finished_at
finished_part = last_part (λ xid. log.Finished xid) xid_exact

forgot_part : ReadsParts forgot_at log.Forgot xid_bytes FitsXid
unfolding forgot_at
forgot_part = last_part (λ xid. log.Forgot xid) xid_exact

records_have : HasEach record_tag fields_bytes FitsRecordIn records
unfolding fields_bytes
records_have keys (log.Begun xid manager begun timeout) fits = (begun_at, refl, λ at rest. begun_part.back (xid, (manager, (begun, timeout))) at rest (fits.0, (fits.1, (fits.2, fits.3))))
records_have layout.Single (log.Granted xid branch resource call ticket kind hold) fits =
    (granted_at layout.Single, refl, λ at rest. (granted_part layout.Single).back (xid, (branch, (resource, (call, (ticket, (kind, hold)))))) at rest (fits.0, (fits.1, (fits.2, (fits.3, (fits.4, (tt, fits.5)))))))
records_have layout.Counted (log.Granted xid branch resource call ticket kind hold) fits =
    (granted_at layout.Counted, refl, λ at rest. (granted_part layout.Counted).back (xid, (branch, (resource, (call, (ticket, (kind, hold)))))) at rest (fits.0, (fits.1, (fits.2, (fits.3, (fits.4, (tt, fits.5)))))))
records_have keys (log.Decided xid decision) fits = (decided_at, refl, λ at rest. decided_part.back (xid, decision) at rest (fits, tt))
records_have keys (log.Retrying xid) fits = (retrying_at, refl, λ at rest. retrying_part.back xid at rest fits)
records_have keys (log.Ended xid branch) fits = (ended_at, refl, λ at rest. ended_part.back (xid, branch) at rest (fits.0, fits.1))
records_have keys (log.Failed xid branch stmt) fits = (failed_at, refl, λ at rest. failed_part.back (xid, (branch, stmt)) at rest (fits.0, (fits.1, fits.2)))
records_have keys (log.Finished xid) fits = (finished_at, refl, λ at rest. finished_part.back xid at rest fits)
records_have keys (log.Forgot xid) fits = (forgot_at, refl, λ at rest. forgot_part.back xid at rest fits)

records_laid : AreLaid record_tag fields_bytes FitsRecordIn records
unfolding fields_bytes
records_laid = (
  laid record_tag fields_bytes FitsRecordIn layout.Counted 1 begun_part (λ t fits. (fits.0, fits.1.0, fits.1.1.0, fits.1.1.1)) (λ t. refl) (λ t. refl),
  (
    laid record_tag fields_bytes FitsRecordIn layout.Single 2 (granted_part layout.Single) (λ t fits. (fits.0, fits.1.0, fits.1.1.0, fits.1.1.1.0, fits.1.1.1.1.0, fits.1.1.1.1.1.1)) (λ t. refl) (λ t. refl),
    (
      laid record_tag fields_bytes FitsRecordIn layout.Counted 3 decided_part (λ t fits. fits.0) (λ t. refl) (λ t. refl),
      (
        laid record_tag fields_bytes FitsRecordIn layout.Counted 4 retrying_part (λ t fits. fits) (λ t. refl) (λ t. refl),
        (
          laid record_tag fields_bytes FitsRecordIn layout.Counted 5 ended_part (λ t fits. (fits.0, fits.1)) (λ t. refl) (λ t. refl),
          (
            laid record_tag fields_bytes FitsRecordIn layout.Counted 6 failed_part (λ t fits. (fits.0, fits.1.0, fits.1.1)) (λ t. refl) (λ t. refl),
            (
              laid record_tag fields_bytes FitsRecordIn layout.Counted 7 finished_part (λ t fits. fits) (λ t. refl) (λ t. refl),
              (
                laid record_tag fields_bytes FitsRecordIn layout.Counted 8 forgot_part (λ t fits. fits) (λ t. refl) (λ t. refl),
                (
                  laid record_tag fields_bytes FitsRecordIn layout.Counted 18 (granted_part layout.Counted) (λ t fits. (fits.0, fits.1.0, fits.1.1.0, fits.1.1.1.0, fits.1.1.1.1.0, fits.1.1.1.1.1.1)) (λ t. refl) (λ t. refl),
                  tt,
                ),
              ),
            ),
          ),
        ),
      ),
    ),
  ),
)

pub record_layouts : ReadsLayouts record_at record_bytes_in FitsRecordIn
unfolding record_at
record_layouts = tagged_layouts record_tag fields_bytes FitsRecordIn records records_have records_laid

pub records_are_of_layouts : IsOfLayouts record_of record_bytes_in FitsRecordIn
unfolding record_of
records_are_of_layouts = entire_layouts record_at record_bytes_in FitsRecordIn record_layouts

pub record_fault : (bytes : List ℕ) (start : Position) (fault : FieldError) (e : RecordError) → start ≡ record { at = 0; rest = bytes } → (fault ≢ field.NoMemory → record_at start ≡ Err fault) → IsFaultOfRecord fault e → ReadsRecord bytes (Err e)
unfolding record_of
record_fault bytes start fault errors.BadRecord is read why = entire_none record_at bytes start fault is (read why)
record_fault bytes start fault errors.NoMemory is read why = tt

pub record_some : (bytes : List ℕ) (start : Position) (r : SessionRecord) (after : Position) → start ≡ record { at = 0; rest = bytes } → record_at start ≡ Ok (r, after) → after.at ≡ length bytes → record_of bytes ≡ Some r
unfolding record_of
record_some bytes start r after is read last = entire_some record_at bytes start r after is read last

pub record_none : (bytes : List ℕ) (start : Position) (r : SessionRecord) (after : Position) → start ≡ record { at = 0; rest = bytes } → record_at start ≡ Ok (r, after) → (after.at ≡ length bytes → ⊥) → record_of bytes ≡ None
unfolding record_of
record_none bytes start r after is read other = entire_longer record_at bytes start r after is read other
