-- Each record is read back in its layouts, and what is read as one stands there.
use Rattle.std.proofs.Common.{◌≡◌, ℕ, ◌^◌, ◌<◌, ◌≢◌, Some, None, List, ◌++◌, length, Result, Ok, Err, refl}
use Rattle.std.specs.Int.{w8, w16, w32, to_be_bytes}
use Rattle.seata_types.specs.declared.ids.Leg.{Leg}
use Rattle.seata_types.specs.declared.rows.Image.{Image}
use Rattle.seata_types.specs.declared.rows.ReadRow.{ReadRow}
use Rattle.byte_fields.specs.declared.layouts.KeyLayout.{KeyLayout}
use Rattle.byte_fields.specs.declared.layouts.KeyLayout.TheVariants as layout
use Rattle.byte_fields.specs.declared.errors.FieldError.{FieldError}
use Rattle.byte_fields.specs.declared.errors.FieldError.TheVariants as field
use Rattle.byte_fields.specs.Layout.{FitsImages, FitsImagesIn, FitsReadsIn, images_bytes, images_bytes_in, reads_bytes_in}
use Rattle.byte_fields.specs.Reading.{Position, Reader, number_at}
use Rattle.byte_fields.specs.Tags.{look_up, tagged}
use Rattle.byte_fields.specs.Taking.{Reads}
use Rattle.byte_fields.specs.Parts.{leg_bytes, FitsLeg}
use Rattle.byte_fields.specs.Entire.{ReadsLayouts, IsOfLayouts}
use Rattle.byte_fields.proofs.Chains.{ReadsParts, part, last_part}
use Rattle.byte_fields.proofs.Numbers.{two_bytes_exact, four_bytes_exact}
use Rattle.byte_fields.proofs.Records.{images_exact, reads_exact, written_images_exact}
use Rattle.byte_fields.proofs.PartLaws.{leg_exact}
use Rattle.byte_fields.proofs.LaidTables.{AreLaid, HasEach, laid, tagged_layouts, entire_layouts, entire_some, entire_longer, entire_none}
use Rattle.durable_records.specs.declared.resources.ResourceRecord.{ResourceRecord}
use Rattle.durable_records.specs.declared.resources.ResourceRecord.TheVariants as log
use Rattle.resource_log.specs.declared.errors.RecordError.{RecordError}
use Rattle.resource_log.specs.declared.errors.RecordError.TheVariants as errors
use Rattle.resource_log.specs.Records.{leg_of, record_tag, fields_bytes, record_bytes_in, FitsRecordIn, boot_at, committed_at, undone_at, marked_at, cleared_at, tried_at, confirmed_at, cancelled_at, suspended_at, local_committed_at, outside_at, records, record_at, record_of, IsFaultOfRecord, ReadsRecord}

boot_part : ReadsParts boot_at log.Boot (to_be_bytes w32) (λ n. n < 2 ^ 32)
unfolding boot_at
boot_part = last_part (λ number. log.Boot number) four_bytes_exact

committed_part : (keys : KeyLayout) → ReadsParts (committed_at keys) (λ (t : Leg × (ℕ × (List Image × List ReadRow))). log.Committed t.0.xid t.0.branch t.1.0 t.1.1.0 t.1.1.1)
    (λ t. leg_bytes t.0 ++ (to_be_bytes w16 t.1.0 ++ (images_bytes_in keys t.1.1.0 ++ reads_bytes_in keys t.1.1.1)))
    (λ t. FitsLeg t.0 × ((t.1.0 < 2 ^ 16) × (FitsImagesIn keys t.1.1.0 × FitsReadsIn keys t.1.1.1)))
unfolding committed_at
committed_part keys = part leg_exact (λ leg. part two_bytes_exact (λ call. part (images_exact keys) (λ images. last_part (λ reads. log.Committed leg.xid leg.branch call images reads) (reads_exact keys))))

tried_part : (keys : KeyLayout) → ReadsParts (tried_at keys) (λ (t : Leg × (ℕ × List Image)). log.Tried t.0.xid t.0.branch t.1.0 t.1.1)
    (λ t. leg_bytes t.0 ++ (to_be_bytes w16 t.1.0 ++ images_bytes_in keys t.1.1)) (λ t. FitsLeg t.0 × ((t.1.0 < 2 ^ 16) × FitsImagesIn keys t.1.1))
unfolding tried_at
tried_part keys = part leg_exact (λ leg. part two_bytes_exact (λ call. last_part (λ images. log.Tried leg.xid leg.branch call images) (images_exact keys)))

undone_part : ReadsParts undone_at (λ (leg : Leg). log.Undone leg.xid leg.branch) leg_bytes FitsLeg
unfolding undone_at
undone_part = last_part (λ leg. log.Undone leg.xid leg.branch) leg_exact

marked_part : ReadsParts marked_at (λ (leg : Leg). log.Marked leg.xid leg.branch) leg_bytes FitsLeg
unfolding marked_at
marked_part = last_part (λ leg. log.Marked leg.xid leg.branch) leg_exact

cleared_part : ReadsParts cleared_at (λ (leg : Leg). log.Cleared leg.xid leg.branch) leg_bytes FitsLeg
unfolding cleared_at
cleared_part = last_part (λ leg. log.Cleared leg.xid leg.branch) leg_exact

suspended_part : ReadsParts suspended_at (λ (leg : Leg). log.Suspended leg.xid leg.branch) leg_bytes FitsLeg
unfolding suspended_at
suspended_part = last_part (λ leg. log.Suspended leg.xid leg.branch) leg_exact

confirmed_part : (keys : KeyLayout) → ReadsParts (confirmed_at keys) (λ (t : Leg × List Image). log.Confirmed t.0.xid t.0.branch t.1)
    (λ t. leg_bytes t.0 ++ images_bytes_in keys t.1) (λ t. FitsLeg t.0 × FitsImagesIn keys t.1)
unfolding confirmed_at
confirmed_part keys = part leg_exact (λ leg. last_part (λ images. log.Confirmed leg.xid leg.branch images) (images_exact keys))

cancelled_part : (keys : KeyLayout) → ReadsParts (cancelled_at keys) (λ (t : Leg × List Image). log.Cancelled t.0.xid t.0.branch t.1)
    (λ t. leg_bytes t.0 ++ images_bytes_in keys t.1) (λ t. FitsLeg t.0 × FitsImagesIn keys t.1)
unfolding cancelled_at
cancelled_part keys = part leg_exact (λ leg. last_part (λ images. log.Cancelled leg.xid leg.branch images) (images_exact keys))

local_committed_part : ReadsParts local_committed_at (λ (t : ℕ × List Image). log.LocalCommitted t.0 t.1)
    (λ t. to_be_bytes w16 t.0 ++ images_bytes t.1) (λ t. (t.0 < 2 ^ 16) × FitsImages t.1)
unfolding local_committed_at
local_committed_part = part two_bytes_exact (λ number. last_part (λ images. log.LocalCommitted number images) written_images_exact)

outside_part : ReadsParts outside_at (λ (t : ℕ × List Image). log.Outside t.0 t.1)
    (λ t. to_be_bytes w16 t.0 ++ images_bytes t.1) (λ t. (t.0 < 2 ^ 16) × FitsImages t.1)
unfolding outside_at
outside_part = part two_bytes_exact (λ number. last_part (λ images. log.Outside number images) written_images_exact)

records_have : HasEach record_tag fields_bytes FitsRecordIn records
unfolding fields_bytes
records_have keys (log.Boot number) fits = (boot_at, refl, λ at rest. boot_part.back number at rest fits)
records_have layout.Single (log.Committed xid branch call images reads) fits = (committed_at layout.Single, refl, λ at rest. (committed_part layout.Single).back (leg_of xid branch, (call, (images, reads))) at rest (fits.0, (fits.1, (fits.2, fits.3))))
records_have layout.Counted (log.Committed xid branch call images reads) fits = (committed_at layout.Counted, refl, λ at rest. (committed_part layout.Counted).back (leg_of xid branch, (call, (images, reads))) at rest (fits.0, (fits.1, (fits.2, fits.3))))
records_have layout.Single (log.Tried xid branch call images) fits = (tried_at layout.Single, refl, λ at rest. (tried_part layout.Single).back (leg_of xid branch, (call, images)) at rest (fits.0, (fits.1, fits.2)))
records_have layout.Counted (log.Tried xid branch call images) fits = (tried_at layout.Counted, refl, λ at rest. (tried_part layout.Counted).back (leg_of xid branch, (call, images)) at rest (fits.0, (fits.1, fits.2)))
records_have layout.Single (log.Confirmed xid branch images) fits = (confirmed_at layout.Single, refl, λ at rest. (confirmed_part layout.Single).back (leg_of xid branch, images) at rest fits)
records_have layout.Counted (log.Confirmed xid branch images) fits = (confirmed_at layout.Counted, refl, λ at rest. (confirmed_part layout.Counted).back (leg_of xid branch, images) at rest fits)
records_have layout.Single (log.Cancelled xid branch images) fits = (cancelled_at layout.Single, refl, λ at rest. (cancelled_part layout.Single).back (leg_of xid branch, images) at rest fits)
records_have layout.Counted (log.Cancelled xid branch images) fits = (cancelled_at layout.Counted, refl, λ at rest. (cancelled_part layout.Counted).back (leg_of xid branch, images) at rest fits)
records_have keys (log.Undone xid branch) fits = (undone_at, refl, λ at rest. undone_part.back (leg_of xid branch) at rest fits)
records_have keys (log.Marked xid branch) fits = (marked_at, refl, λ at rest. marked_part.back (leg_of xid branch) at rest fits)
records_have keys (log.Cleared xid branch) fits = (cleared_at, refl, λ at rest. cleared_part.back (leg_of xid branch) at rest fits)
records_have keys (log.Suspended xid branch) fits = (suspended_at, refl, λ at rest. suspended_part.back (leg_of xid branch) at rest fits)
records_have keys (log.LocalCommitted number images) fits = (local_committed_at, refl, λ at rest. local_committed_part.back (number, images) at rest fits)
records_have keys (log.Outside number images) fits = (outside_at, refl, λ at rest. outside_part.back (number, images) at rest fits)

records_laid : AreLaid record_tag fields_bytes FitsRecordIn records
unfolding fields_bytes
records_laid = (
  laid record_tag fields_bytes FitsRecordIn layout.Counted 1 boot_part (λ t fits. fits) (λ t. refl) (λ t. refl),
  (
    laid record_tag fields_bytes FitsRecordIn layout.Single 2 (committed_part layout.Single) (λ t fits. (fits.0, fits.1.0, fits.1.1.0, fits.1.1.1)) (λ t. refl) (λ t. refl),
    (
      laid record_tag fields_bytes FitsRecordIn layout.Counted 3 undone_part (λ t fits. fits) (λ t. refl) (λ t. refl),
      (
        laid record_tag fields_bytes FitsRecordIn layout.Counted 4 marked_part (λ t fits. fits) (λ t. refl) (λ t. refl),
        (
          laid record_tag fields_bytes FitsRecordIn layout.Counted 5 cleared_part (λ t fits. fits) (λ t. refl) (λ t. refl),
          (
            laid record_tag fields_bytes FitsRecordIn layout.Single 6 (tried_part layout.Single) (λ t fits. (fits.0, fits.1.0, fits.1.1)) (λ t. refl) (λ t. refl),
            (
              laid record_tag fields_bytes FitsRecordIn layout.Single 7 (confirmed_part layout.Single) (λ t fits. fits) (λ t. refl) (λ t. refl),
              (
                laid record_tag fields_bytes FitsRecordIn layout.Single 8 (cancelled_part layout.Single) (λ t fits. fits) (λ t. refl) (λ t. refl),
                (
                  laid record_tag fields_bytes FitsRecordIn layout.Counted 9 suspended_part (λ t fits. fits) (λ t. refl) (λ t. refl),
                  (
                    laid record_tag fields_bytes FitsRecordIn layout.Counted 18 (committed_part layout.Counted) (λ t fits. (fits.0, fits.1.0, fits.1.1.0, fits.1.1.1)) (λ t. refl) (λ t. refl),
                    (
                      laid record_tag fields_bytes FitsRecordIn layout.Counted 22 (tried_part layout.Counted) (λ t fits. (fits.0, fits.1.0, fits.1.1)) (λ t. refl) (λ t. refl),
                      (
                        laid record_tag fields_bytes FitsRecordIn layout.Counted 23 (confirmed_part layout.Counted) (λ t fits. fits) (λ t. refl) (λ t. refl),
                        (
                          laid record_tag fields_bytes FitsRecordIn layout.Counted 24 (cancelled_part layout.Counted) (λ t fits. fits) (λ t. refl) (λ t. refl),
                          (
                            laid record_tag fields_bytes FitsRecordIn layout.Counted 26 local_committed_part (λ t fits. fits) (λ t. refl) (λ t. refl),
                            (
                              laid record_tag fields_bytes FitsRecordIn layout.Counted 27 outside_part (λ t fits. fits) (λ t. refl) (λ t. refl),
                              tt,
                            ),
                          ),
                        ),
                      ),
                    ),
                  ),
                ),
              ),
            ),
          ),
        ),
      ),
    ),
  ),
)

-- what stands behind a tag that was read
pub behind_tag : (tag n : ℕ) (reader : Reader ResourceRecord) (place after new : Position) (r : Result ResourceRecord FieldError) → number_at w8 place ≡ Ok (tag, after) → tag ≡ n →
    look_up n records ≡ Some reader → Reads reader after new r → Reads record_at place new r
unfolding record_at tagged
behind_tag tag n reader place after new (Ok x) read is found gave = rw (read, is, found) gave
behind_tag tag n reader place after new (Err e) read is found gave = λ other. rw (read, is, found) (gave other)

pub record_layouts : ReadsLayouts record_at record_bytes_in FitsRecordIn
unfolding record_at
record_layouts = tagged_layouts record_tag fields_bytes FitsRecordIn records records_have records_laid

pub records_are_of_layouts : IsOfLayouts record_of record_bytes_in FitsRecordIn
unfolding record_of
records_are_of_layouts = entire_layouts record_at record_bytes_in FitsRecordIn record_layouts

pub record_fault : (bytes : List ℕ) (start : Position) (fault : FieldError) (e : RecordError) → start ≡ record { at = 0; rest = bytes } → (fault ≢ field.NoMemory → record_at start ≡ Err fault) → IsFaultOfRecord fault e → ReadsRecord bytes (Err e)
unfolding record_of
record_fault bytes start fault errors.BadRecord is read why = entire_none record_at bytes start fault is (read why)
record_fault bytes start fault errors.NoMemory is read why = tt

pub record_some : (bytes : List ℕ) (start : Position) (r : ResourceRecord) (after : Position) → start ≡ record { at = 0; rest = bytes } → record_at start ≡ Ok (r, after) → after.at ≡ length bytes → record_of bytes ≡ Some r
unfolding record_of
record_some bytes start r after is read last = entire_some record_at bytes start r after is read last

pub record_none : (bytes : List ℕ) (start : Position) (r : ResourceRecord) (after : Position) → start ≡ record { at = 0; rest = bytes } → record_at start ≡ Ok (r, after) → (after.at ≡ length bytes → ⊥) → record_of bytes ≡ None
unfolding record_of
record_none bytes start r after is read other = entire_longer record_at bytes start r after is read other
