use Rattle.std.proofs.Common.{◌<◌, sym, ◌∙◌, arith}
use Rattle.std.proofs.lemmas.List.Elements.{All-from_get_or}
use Rattle.resource_log.proofs.OldLayouts.{record_writable}
use Rattle.resource_log.proofs.RecordLaws.{records_are_of_layouts, record_fault, record_some, record_none}
use Rattle.resource_log.proofs.records.read_record.Goals as goal

pub returns-in-Err-clause-exact : goal.returns-in-Err-clause-exact
returns-in-Err-clause-exact c = record_fault c.args.body.now c.new-fields.result c.in-Err.fault c.as_record.result c.new-fields.ensures c.in-Err.ensures c.as_record.ensures

pub returns-in-Err-clause-layouts : goal.returns-in-Err-clause-layouts
returns-in-Err-clause-layouts c = records_are_of_layouts

pub returns-then-at-body-clause-exact : goal.returns-then-at-body-clause-exact
returns-then-at-body-clause-exact c = record_some c.args.body.now c.new-fields.result c.in-Ok.found c.record.new.fields c.new-fields.ensures c.in-Ok.ensures (sym c.at.ensures ∙ c.if-at-body.true)

pub returns-then-at-body-clause-layouts : goal.returns-then-at-body-clause-layouts
returns-then-at-body-clause-layouts c = records_are_of_layouts

pub returns-else-at-body-clause-exact : goal.returns-else-at-body-clause-exact
returns-else-at-body-clause-exact c = record_none c.args.body.now c.new-fields.result c.in-Ok.found c.record.new.fields c.new-fields.ensures c.in-Ok.ensures (λ e. c.if-at-body.false (c.at.ensures ∙ e))

pub returns-else-at-body-clause-layouts : goal.returns-else-at-body-clause-layouts
returns-else-at-body-clause-layouts c = records_are_of_layouts

pub returns-then-at-body-clause-writable : goal.returns-then-at-body-clause-writable
returns-then-at-body-clause-writable c =
    record_writable c.args.body.now c.in-Ok.found (All-from_get_or (λ b. b < 256) c.args.body.now 0 (λ i lt. omega (arith, c.type_inv.body i)))
    (record_some c.args.body.now c.new-fields.result c.in-Ok.found c.record.new.fields c.new-fields.ensures c.in-Ok.ensures (sym c.at.ensures ∙ c.if-at-body.true))
