-- The bytes of the coordinator's records: a tag, and its fields.
use Rattle.std.specs.Prelude.{◌≡◌, ◌≢◌, ℕ, ◌<◌, ◌^◌, List, [], ◌∷◌, Option, Result, Ok, Err, None, Some}
use Rattle.std.specs.Int.{w16, w64, to_be_bytes}
use Rattle.seata_types.specs.declared.statuses.Decision.{Decision}
use Rattle.seata_types.specs.declared.statuses.Decision.TheVariants as how
use Rattle.byte_fields.specs.declared.layouts.KeyLayout.{KeyLayout}
use Rattle.byte_fields.specs.declared.layouts.KeyLayout.TheVariants as layout
use Rattle.byte_fields.specs.declared.errors.FieldError.{FieldError}
use Rattle.byte_fields.specs.declared.errors.FieldError.TheVariants as field
use Rattle.byte_fields.specs.Layout.{FitsKeysIn, FitsTicket, keys_bytes_in, ticket_bytes}
use Rattle.byte_fields.specs.Reading.{Reader, ◌>>=◌, gives, number_at, keys_in, ticket_at}
use Rattle.byte_fields.specs.Tags.{tagged, coded}
use Rattle.byte_fields.specs.Parts.{joined, xid_bytes, FitsXid, xid_at, branch_bytes, FitsBranch, branch_at, kind_code, kind_at}
use Rattle.durable_records.specs.declared.coordinators.SessionRecord.{SessionRecord}
use Rattle.durable_records.specs.declared.coordinators.SessionRecord.TheVariants as log
use Rattle.session_log.specs.declared.tags.TheConstants.{BEGUN, OLD_GRANTED, DECIDED, RETRYING, ENDED, FAILED, FINISHED, FORGOT, GRANTED}
use Rattle.session_log.specs.declared.errors.RecordError.{RecordError}
use Rattle.session_log.specs.declared.errors.RecordError.TheVariants as errors
use Rattle.byte_fields.specs.Entire.{entire}

-- ---- parts

abbrev pub decision_code : Decision → ℕ
decision_code how.Commit = 1
decision_code how.Rollback = 2
decision_code how.Timeout = 3

unfoldable pub decision_at : Reader Decision
decision_at = coded decision_code (how.Commit ∷ how.Rollback ∷ how.Timeout ∷ [])

abbrev pub granted_tag : KeyLayout → ℕ
granted_tag layout.Single = OLD_GRANTED
granted_tag layout.Counted = GRANTED

-- ---- the bytes of a record, by the layout of the keys in it

abbrev pub record_tag : KeyLayout → SessionRecord → ℕ
record_tag keys (log.Begun xid manager begun timeout) = BEGUN
record_tag keys (log.Granted xid branch resource call ticket kind hold) = granted_tag keys
record_tag keys (log.Decided xid decision) = DECIDED
record_tag keys (log.Retrying xid) = RETRYING
record_tag keys (log.Ended xid branch) = ENDED
record_tag keys (log.Failed xid branch stmt) = FAILED
record_tag keys (log.Finished xid) = FINISHED
record_tag keys (log.Forgot xid) = FORGOT

unfoldable pub fields_bytes : KeyLayout → SessionRecord → List ℕ
fields_bytes keys (log.Begun xid manager begun timeout) =
    joined (xid_bytes xid ∷ to_be_bytes w16 manager ∷ to_be_bytes w64 begun ∷ to_be_bytes w64 timeout ∷ [])
fields_bytes keys (log.Granted xid branch resource call ticket kind hold) =
    joined (xid_bytes xid ∷ branch_bytes branch ∷ to_be_bytes w16 resource ∷ to_be_bytes w16 call ∷
    ticket_bytes ticket ∷ (kind_code kind ∷ []) ∷ keys_bytes_in keys hold ∷ [])
fields_bytes keys (log.Decided xid decision) = joined (xid_bytes xid ∷ (decision_code decision ∷ []) ∷ [])
fields_bytes keys (log.Retrying xid) = xid_bytes xid
fields_bytes keys (log.Ended xid branch) = joined (xid_bytes xid ∷ branch_bytes branch ∷ [])
fields_bytes keys (log.Failed xid branch stmt) = joined (xid_bytes xid ∷ branch_bytes branch ∷ to_be_bytes w16 stmt ∷ [])
fields_bytes keys (log.Finished xid) = xid_bytes xid
fields_bytes keys (log.Forgot xid) = xid_bytes xid

abbrev pub record_bytes_in : KeyLayout → SessionRecord → List ℕ
record_bytes_in keys r = record_tag keys r ∷ fields_bytes keys r

-- which records have such bytes
abbrev pub FitsRecordIn : KeyLayout → SessionRecord → Type 0
FitsRecordIn keys (log.Begun xid manager begun timeout) = FitsXid xid × (manager < 2 ^ 16) × (begun < 2 ^ 64) × (timeout < 2 ^ 64)
FitsRecordIn keys (log.Granted xid branch resource call ticket kind hold) =
    FitsXid xid × FitsBranch branch × (resource < 2 ^ 16) × (call < 2 ^ 16) × FitsTicket ticket × FitsKeysIn keys hold
FitsRecordIn keys (log.Decided xid decision) = FitsXid xid
FitsRecordIn keys (log.Retrying xid) = FitsXid xid
FitsRecordIn keys (log.Ended xid branch) = FitsXid xid × FitsBranch branch
FitsRecordIn keys (log.Failed xid branch stmt) = FitsXid xid × FitsBranch branch × (stmt < 2 ^ 16)
FitsRecordIn keys (log.Finished xid) = FitsXid xid
FitsRecordIn keys (log.Forgot xid) = FitsXid xid

-- ---- the layout that is written

abbrev pub record_bytes : SessionRecord → List ℕ
record_bytes r = record_bytes_in layout.Counted r

abbrev pub FitsRecord : SessionRecord → Type 0
FitsRecord r = FitsRecordIn layout.Counted r

-- ---- reading

unfoldable pub begun_at : Reader SessionRecord
begun_at = do
  xid ← xid_at
  manager ← number_at w16
  begun ← number_at w64
  timeout ← number_at w64
  gives (log.Begun xid manager begun timeout)

unfoldable pub granted_at : KeyLayout → Reader SessionRecord
granted_at keys = do
  xid ← xid_at
  branch ← branch_at
  resource ← number_at w16
  call ← number_at w16
  ticket ← ticket_at
  kind ← kind_at
  hold ← keys_in keys
  gives (log.Granted xid branch resource call ticket kind hold)

unfoldable pub decided_at : Reader SessionRecord
decided_at = do
  xid ← xid_at
  decision ← decision_at
  gives (log.Decided xid decision)

unfoldable pub retrying_at : Reader SessionRecord
retrying_at = do
  xid ← xid_at
  gives (log.Retrying xid)

unfoldable pub ended_at : Reader SessionRecord
ended_at = do
  xid ← xid_at
  branch ← branch_at
  gives (log.Ended xid branch)

unfoldable pub failed_at : Reader SessionRecord
failed_at = do
  xid ← xid_at
  branch ← branch_at
  stmt ← number_at w16
  gives (log.Failed xid branch stmt)

unfoldable pub finished_at : Reader SessionRecord
finished_at = do
  xid ← xid_at
  gives (log.Finished xid)

unfoldable pub forgot_at : Reader SessionRecord
forgot_at = do
  xid ← xid_at
  gives (log.Forgot xid)

-- what stands behind each tag
abbrev pub records : List (ℕ × Reader SessionRecord)
records =
    (BEGUN, begun_at) ∷ (OLD_GRANTED, granted_at layout.Single) ∷ (DECIDED, decided_at) ∷ (RETRYING, retrying_at) ∷ (ENDED, ended_at) ∷
    (FAILED, failed_at) ∷ (FINISHED, finished_at) ∷ (FORGOT, forgot_at) ∷ (GRANTED, granted_at layout.Counted) ∷ []

unfoldable pub record_at : Reader SessionRecord
record_at = tagged records

-- the record that the bytes are
unfoldable pub record_of : List ℕ → Option SessionRecord
record_of bytes = entire record_at bytes

-- what a fault of a field says of the record
abbrev pub IsFaultOfRecord : FieldError → RecordError → Type 0
IsFaultOfRecord fault errors.BadRecord = fault ≢ field.NoMemory
IsFaultOfRecord fault errors.NoMemory = Unit {0}

-- what reading a record answers: the record, or that there is none. Want of memory alone is free.
abbrev pub ReadsRecord : List ℕ → Result SessionRecord RecordError → Type 0
ReadsRecord bytes (Ok r) = record_of bytes ≡ Some r
ReadsRecord bytes (Err errors.BadRecord) = record_of bytes ≡ None
ReadsRecord bytes (Err errors.NoMemory) = Unit {0}
