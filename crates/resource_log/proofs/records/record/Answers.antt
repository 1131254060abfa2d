use Rattle.std.proofs.Common.{◌≡◌, refl}
use Rattle.byte_fields.specs.declared.layouts.KeyLayout.TheVariants as layout
use Rattle.resource_log.specs.Records.{committed_at, tried_at}
use Rattle.resource_log.proofs.RecordLaws.{behind_tag}
use Rattle.resource_log.proofs.records.record.Goals as goal

pub returns-in-18 : goal.returns-in-18
returns-in-18 c =
    let known = c.in-18.is in
    behind_tag c.in_ok-take_u8.field-0 18 (committed_at layout.Counted) c.args.fields.now c.take_u8.new.self c.committed-in-18.new.fields c.committed-in-18.result
    c.in_ok-take_u8.ensures.exact (let is : c.in_ok-take_u8.field-0 ≡ 18 = cc in is) refl c.committed-in-18.ensures

pub returns-in-22 : goal.returns-in-22
returns-in-22 c =
    let known = c.in-22.is in
    behind_tag c.in_ok-take_u8.field-0 22 (tried_at layout.Counted) c.args.fields.now c.take_u8.new.self c.tried-in-22.new.fields c.tried-in-22.result
    c.in_ok-take_u8.ensures.exact (let is : c.in_ok-take_u8.field-0 ≡ 22 = cc in is) refl c.tried-in-22.ensures
