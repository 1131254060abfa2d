use Rattle.std.proofs.Common.{sym, subst}
use Rattle.byte_fields.specs.Layout.{FitsKeys}
use Rattle.session_log.specs.Records.{FitsRecord}
use Rattle.session_memory.specs.Changes.{taken_rows}
use Rattle.durable_records.specs.declared.coordinators.SessionRecord.{SessionRecord}
use Rattle.coordinator_core.proofs.table.put.Goals as goal

pub add_counted-requires-clause-fits : goal.add_counted-requires-clause-fits
add_counted-requires-clause-fits g c =
    let keys = subst (λ (r : SessionRecord). FitsKeys (taken_rows r)) c.in-Granted.is c.requires.keys in
    let numbers = c.tell_numbers.ensures in
    subst FitsRecord (sym c.in-Granted.is) (numbers.leg.0, numbers.leg.1, numbers.place.0, numbers.place.1, numbers.ticket, keys)
