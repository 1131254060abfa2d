-- Records of images and reads that have places have a place in a journal.
use Rattle.std.proofs.Common.{◌≡◌, ℕ, ◌+◌, ◌≤◌, ◌++◌, length, arith}
use Rattle.std.specs.Int.{w16, to_be_bytes}
use Rattle.std.proofs.lemmas.List.{length-append}
use Rattle.seata_types.specs.declared.ids.Leg.{Leg}
use Rattle.seata_types.specs.declared.limits.TheConstants.{BODY_BYTES}
use Rattle.byte_fields.specs.Layout.{images_bytes, reads_bytes}
use Rattle.byte_fields.specs.Parts.{branch_bytes, leg_bytes, xid_bytes}
use Rattle.byte_fields.proofs.Numbers.{wide16, wide64}
use Rattle.local_tables.specs.declared.schemas.Effect.{Effect}
use Rattle.durable_records.specs.declared.resources.ResourceRecord.TheVariants as log
use Rattle.resource_log.specs.Records.{fields_bytes, record_bytes}
use Rattle.record_places.specs.Laws.{RecordsHavePlaces}
use Rattle.record_places.specs.Within.{IsEffectWithin}

leg_size : (leg : Leg) → length (leg_bytes leg) ≡ 16
leg_size leg =
    let both = length-append (xid_bytes leg.xid) (branch_bytes leg.branch) in
    let one = wide64.len leg.xid.0 in
    let two = wide64.len leg.branch.0 in
    omega (arith, both, one, two)

module _ (e : Effect) (is : IsEffectWithin e) where
  committed_size : (leg : Leg) (call : ℕ) → length (record_bytes (log.Committed leg.xid leg.branch call e.images e.reads)) ≤ BODY_BYTES
  unfolding fields_bytes
  committed_size leg call =
      let a = length-append (leg_bytes leg) (to_be_bytes w16 call ++ (images_bytes e.images ++ reads_bytes e.reads)) in
      let b = length-append (to_be_bytes w16 call) (images_bytes e.images ++ reads_bytes e.reads) in
      let c = length-append (images_bytes e.images) (reads_bytes e.reads) in
      let d = leg_size leg in
      let f = wide16.len call in
      let room = is.room in
      omega (arith, a, b, c, d, f, room)

  tried_size : (leg : Leg) (call : ℕ) → length (record_bytes (log.Tried leg.xid leg.branch call e.images)) ≤ BODY_BYTES
  unfolding fields_bytes
  tried_size leg call =
      let a = length-append (leg_bytes leg) (to_be_bytes w16 call ++ images_bytes e.images) in
      let b = length-append (to_be_bytes w16 call) (images_bytes e.images) in
      let d = leg_size leg in
      let f = wide16.len call in
      let room = is.room in
      omega (arith, a, b, d, f, room)

  ended_size : (leg : Leg) → 1 + length (leg_bytes leg ++ images_bytes e.images) ≤ BODY_BYTES
  ended_size leg =
      let a = length-append (leg_bytes leg) (images_bytes e.images) in
      let d = leg_size leg in
      let room = is.room in
      omega (arith, a, d, room)

  confirmed_size : (leg : Leg) → length (record_bytes (log.Confirmed leg.xid leg.branch e.images)) ≤ BODY_BYTES
  unfolding fields_bytes
  confirmed_size leg = let all = ended_size leg in omega (arith, all)

  cancelled_size : (leg : Leg) → length (record_bytes (log.Cancelled leg.xid leg.branch e.images)) ≤ BODY_BYTES
  unfolding fields_bytes
  cancelled_size leg = let all = ended_size leg in omega (arith, all)

  numbered_size : (number : ℕ) → 1 + length (to_be_bytes w16 number ++ images_bytes e.images) ≤ BODY_BYTES
  numbered_size number =
      let a = length-append (to_be_bytes w16 number) (images_bytes e.images) in
      let f = wide16.len number in
      let room = is.room in
      omega (arith, a, f, room)

  local_size : (number : ℕ) → length (record_bytes (log.LocalCommitted number e.images)) ≤ BODY_BYTES
  unfolding fields_bytes
  local_size number = let all = numbered_size number in omega (arith, all)

  outside_size : (number : ℕ) → length (record_bytes (log.Outside number e.images)) ≤ BODY_BYTES
  unfolding fields_bytes
  outside_size number = let all = numbered_size number in omega (arith, all)

pub records_have_places : RecordsHavePlaces
records_have_places e is = record {
  committed = λ leg call fits few. record { fits = (fits, few, is.images, is.reads); small = committed_size e is leg call };
  tried = λ leg call fits few. record { fits = (fits, few, is.images); small = tried_size e is leg call };
  confirmed = λ leg fits. record { fits = (fits, is.images); small = confirmed_size e is leg };
  cancelled = λ leg fits. record { fits = (fits, is.images); small = cancelled_size e is leg };
  local = λ number few. record { fits = (few, is.images); small = local_size e is number };
  outside = λ number few. record { fits = (few, is.images); small = outside_size e is number };
}
