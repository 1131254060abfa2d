-- The bytes of a resource's records: a tag, and its fields.
use Rattle.std.specs.Prelude.{◌≡◌, ◌≢◌, ℕ, ◌<◌, ◌^◌, List, [], ◌∷◌, Option, Result, Ok, Err, None, Some}
use Rattle.std.specs.Int.{w16, w32, to_be_bytes}
use Rattle.seata_types.specs.declared.ids.Xid.{Xid}
use Rattle.seata_types.specs.declared.ids.BranchId.{BranchId}
use Rattle.seata_types.specs.declared.ids.Leg.{Leg}
use Rattle.byte_fields.specs.declared.layouts.KeyLayout.{KeyLayout}
use Rattle.byte_fields.specs.declared.layouts.KeyLayout.TheVariants as layout
use Rattle.byte_fields.specs.declared.errors.FieldError.{FieldError}
use Rattle.byte_fields.specs.declared.errors.FieldError.TheVariants as field
use Rattle.byte_fields.specs.Layout.{FitsImages, FitsImagesIn, FitsReadsIn, images_bytes, images_bytes_in, reads_bytes_in}
use Rattle.byte_fields.specs.Reading.{Reader, ◌>>=◌, gives, number_at, images_at, images_in, reads_in}
use Rattle.byte_fields.specs.Tags.{tagged}
use Rattle.byte_fields.specs.Parts.{joined, leg_bytes, FitsLeg, leg_at}
use Rattle.byte_fields.specs.Entire.{entire}
use Rattle.durable_records.specs.declared.resources.ResourceRecord.{ResourceRecord}
use Rattle.durable_records.specs.declared.resources.ResourceRecord.TheVariants as log
use Rattle.resource_log.specs.declared.tags.TheConstants.{BOOT, OLD_COMMITTED, UNDONE, MARKED, CLEARED, OLD_TRIED, OLD_CONFIRMED, OLD_CANCELLED, SUSPENDED, COMMITTED, TRIED, CONFIRMED, CANCELLED, LOCAL_COMMITTED, OUTSIDE}
use Rattle.resource_log.specs.declared.errors.RecordError.{RecordError}
use Rattle.resource_log.specs.declared.errors.RecordError.TheVariants as errors

abbrev pub leg_of : Xid → BranchId → Leg
leg_of xid branch = record { xid = xid; branch = branch }

-- ---- tags: those of records with images that had an older layout go by the layout of the keys

abbrev pub by_layout : (old new : ℕ) → KeyLayout → ℕ
by_layout old new layout.Single = old
by_layout old new layout.Counted = new

abbrev pub record_tag : KeyLayout → ResourceRecord → ℕ
record_tag keys (log.Boot number) = BOOT
record_tag keys (log.Committed xid branch call images reads) = by_layout OLD_COMMITTED COMMITTED keys
record_tag keys (log.Undone xid branch) = UNDONE
record_tag keys (log.Marked xid branch) = MARKED
record_tag keys (log.Cleared xid branch) = CLEARED
record_tag keys (log.Tried xid branch call images) = by_layout OLD_TRIED TRIED keys
record_tag keys (log.Confirmed xid branch images) = by_layout OLD_CONFIRMED CONFIRMED keys
record_tag keys (log.Cancelled xid branch images) = by_layout OLD_CANCELLED CANCELLED keys
record_tag keys (log.Suspended xid branch) = SUSPENDED
record_tag keys (log.LocalCommitted number images) = LOCAL_COMMITTED
record_tag keys (log.Outside number images) = OUTSIDE

-- ---- the bytes of a record, by the layout of the keys in it; local transactions and outside writes have one layout alone

unfoldable pub fields_bytes : KeyLayout → ResourceRecord → List ℕ
fields_bytes keys (log.Boot number) = to_be_bytes w32 number
fields_bytes keys (log.Committed xid branch call images reads) =
    joined (leg_bytes (leg_of xid branch) ∷ to_be_bytes w16 call ∷ images_bytes_in keys images ∷ reads_bytes_in keys reads ∷ [])
fields_bytes keys (log.Undone xid branch) = leg_bytes (leg_of xid branch)
fields_bytes keys (log.Marked xid branch) = leg_bytes (leg_of xid branch)
fields_bytes keys (log.Cleared xid branch) = leg_bytes (leg_of xid branch)
fields_bytes keys (log.Tried xid branch call images) =
    joined (leg_bytes (leg_of xid branch) ∷ to_be_bytes w16 call ∷ images_bytes_in keys images ∷ [])
fields_bytes keys (log.Confirmed xid branch images) = joined (leg_bytes (leg_of xid branch) ∷ images_bytes_in keys images ∷ [])
fields_bytes keys (log.Cancelled xid branch images) = joined (leg_bytes (leg_of xid branch) ∷ images_bytes_in keys images ∷ [])
fields_bytes keys (log.Suspended xid branch) = leg_bytes (leg_of xid branch)
fields_bytes keys (log.LocalCommitted number images) = joined (to_be_bytes w16 number ∷ images_bytes images ∷ [])
fields_bytes keys (log.Outside number images) = joined (to_be_bytes w16 number ∷ images_bytes images ∷ [])

abbrev pub record_bytes_in : KeyLayout → ResourceRecord → List ℕ
record_bytes_in keys r = record_tag keys r ∷ fields_bytes keys r

-- which records have such bytes
abbrev pub FitsRecordIn : KeyLayout → ResourceRecord → Type 0
FitsRecordIn keys (log.Boot number) = number < 2 ^ 32
FitsRecordIn keys (log.Committed xid branch call images reads) =
    FitsLeg (leg_of xid branch) × (call < 2 ^ 16) × FitsImagesIn keys images × FitsReadsIn keys reads
FitsRecordIn keys (log.Undone xid branch) = FitsLeg (leg_of xid branch)
FitsRecordIn keys (log.Marked xid branch) = FitsLeg (leg_of xid branch)
FitsRecordIn keys (log.Cleared xid branch) = FitsLeg (leg_of xid branch)
FitsRecordIn keys (log.Tried xid branch call images) = FitsLeg (leg_of xid branch) × (call < 2 ^ 16) × FitsImagesIn keys images
FitsRecordIn keys (log.Confirmed xid branch images) = FitsLeg (leg_of xid branch) × FitsImagesIn keys images
FitsRecordIn keys (log.Cancelled xid branch images) = FitsLeg (leg_of xid branch) × FitsImagesIn keys images
FitsRecordIn keys (log.Suspended xid branch) = FitsLeg (leg_of xid branch)
FitsRecordIn keys (log.LocalCommitted number images) = (number < 2 ^ 16) × FitsImages images
FitsRecordIn keys (log.Outside number images) = (number < 2 ^ 16) × FitsImages images

-- ---- the layout that is written

abbrev pub record_bytes : ResourceRecord → List ℕ
record_bytes r = record_bytes_in layout.Counted r

abbrev pub FitsRecord : ResourceRecord → Type 0
FitsRecord r = FitsRecordIn layout.Counted r

-- ---- reading

unfoldable pub boot_at : Reader ResourceRecord
boot_at = do
  number ← number_at w32
  gives (log.Boot number)

unfoldable pub committed_at : KeyLayout → Reader ResourceRecord
committed_at keys = do
  leg ← leg_at
  call ← number_at w16
  images ← images_in keys
  reads ← reads_in keys
  gives (log.Committed leg.xid leg.branch call images reads)

unfoldable pub undone_at : Reader ResourceRecord
undone_at = do
  leg ← leg_at
  gives (log.Undone leg.xid leg.branch)

unfoldable pub marked_at : Reader ResourceRecord
marked_at = do
  leg ← leg_at
  gives (log.Marked leg.xid leg.branch)

unfoldable pub cleared_at : Reader ResourceRecord
cleared_at = do
  leg ← leg_at
  gives (log.Cleared leg.xid leg.branch)

unfoldable pub tried_at : KeyLayout → Reader ResourceRecord
tried_at keys = do
  leg ← leg_at
  call ← number_at w16
  images ← images_in keys
  gives (log.Tried leg.xid leg.branch call images)

unfoldable pub confirmed_at : KeyLayout → Reader ResourceRecord
confirmed_at keys = do
  leg ← leg_at
  images ← images_in keys
  gives (log.Confirmed leg.xid leg.branch images)

unfoldable pub cancelled_at : KeyLayout → Reader ResourceRecord
cancelled_at keys = do
  leg ← leg_at
  images ← images_in keys
  gives (log.Cancelled leg.xid leg.branch images)

unfoldable pub suspended_at : Reader ResourceRecord
suspended_at = do
  leg ← leg_at
  gives (log.Suspended leg.xid leg.branch)

unfoldable pub local_committed_at : Reader ResourceRecord
local_committed_at = do
  number ← number_at w16
  images ← images_at
  gives (log.LocalCommitted number images)

unfoldable pub outside_at : Reader ResourceRecord
outside_at = do
  number ← number_at w16
  images ← images_at
  gives (log.Outside number images)

-- what stands behind each tag
abbrev pub records : List (ℕ × Reader ResourceRecord)
records =
    (BOOT, boot_at) ∷ (OLD_COMMITTED, committed_at layout.Single) ∷ (UNDONE, undone_at) ∷ (MARKED, marked_at) ∷ (CLEARED, cleared_at) ∷
    (OLD_TRIED, tried_at layout.Single) ∷ (OLD_CONFIRMED, confirmed_at layout.Single) ∷ (OLD_CANCELLED, cancelled_at layout.Single) ∷
    (SUSPENDED, suspended_at) ∷ (COMMITTED, committed_at layout.Counted) ∷ (TRIED, tried_at layout.Counted) ∷
    (CONFIRMED, confirmed_at layout.Counted) ∷ (CANCELLED, cancelled_at layout.Counted) ∷ (LOCAL_COMMITTED, local_committed_at) ∷
    (OUTSIDE, outside_at) ∷ []

unfoldable pub record_at : Reader ResourceRecord
record_at = tagged records

-- the record that the bytes are
unfoldable pub record_of : List ℕ → Option ResourceRecord
record_of bytes = entire record_at bytes

-- what a fault of a field says of the record
abbrev pub IsFaultOfRecord : FieldError → RecordError → Type 0
IsFaultOfRecord fault errors.BadRecord = fault ≢ field.NoMemory
IsFaultOfRecord fault errors.NoMemory = Unit {0}

-- what reading a record answers: the record, or that there is none. Want of memory alone is free.
abbrev pub ReadsRecord : List ℕ → Result ResourceRecord RecordError → Type 0
ReadsRecord bytes (Ok r) = record_of bytes ≡ Some r
ReadsRecord bytes (Err errors.BadRecord) = record_of bytes ≡ None
ReadsRecord bytes (Err errors.NoMemory) = Unit {0}
