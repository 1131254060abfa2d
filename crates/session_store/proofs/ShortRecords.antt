-- How long the bytes of records are.
use Rattle.std.proofs.Common.{◌≡◌, ◌≤◌, false, length, arith}
use Rattle.seata_types.specs.declared.limits.TheConstants.{BODY_BYTES}
use Rattle.durable_records.specs.declared.coordinators.SessionRecord.{SessionRecord}
use Rattle.durable_records.specs.declared.coordinators.SessionRecord.TheVariants as log
use Rattle.session_log.specs.Records.{record_bytes, fields_bytes}
use Rattle.session_store.specs.Keeping.{registers}

-- a record that registers no branch is short
pub short_record : (r : SessionRecord) → registers r ≡ false → length (record_bytes r) ≤ BODY_BYTES
unfolding fields_bytes
short_record (log.Begun xid manager begun timeout) none = omega arith
short_record (log.Granted xid branch resource call ticket kind hold) none = absurd (cc)
short_record (log.Decided xid decision) none = omega arith
short_record (log.Retrying xid) none = omega arith
short_record (log.Ended xid branch) none = omega arith
short_record (log.Failed xid branch stmt) none = omega arith
short_record (log.Finished xid) none = omega arith
short_record (log.Forgot xid) none = omega arith
