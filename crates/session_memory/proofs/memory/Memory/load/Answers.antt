use Rattle.std.proofs.Common.{List, [], refl, subst}
use Rattle.session_log.specs.declared.sessions.SessionEntry.{SessionEntry}
use Rattle.session_memory.specs.Owners.{first_owned, Takes}
use Rattle.session_memory.proofs.TicketLaws.{loaded_owned}
use Rattle.session_memory.proofs.LoadLaws.{loads_kept, loads_once, loads_not}
use Rattle.session_memory.proofs.memory.Memory.load.Goals as goal

pub invariant_of-result : goal.invariant_of-result
invariant_of-result g c = (
  loads_kept c.args.snapshot c.requires.counted c.new-locks.result c.take_all.new.locks c.as_slice-3.result.now c.new-locks.ensures c.as_slice-3.ensures c.in-Ok-take_all.ensures.1,
  loaded_owned c.in-Ok.owners c.args.snapshot c.requires.tickets (subst (λ (es : List SessionEntry). Takes [] (first_owned es) c.in-Ok.owners) c.as_slice.ensures c.in-Ok.ensures),
  rw c.as_slice-2.ensures at c.of-ends.ensures,
)

pub returns-in-Ok-take_all : goal.returns-in-Ok-take_all
returns-in-Ok-take_all g c = (loads_once c.args.snapshot c.requires.counted c.new-locks.result c.take_all.new.locks c.as_slice-3.result.now c.new-locks.ensures c.as_slice-3.ensures c.in-Ok-take_all.ensures.0, refl)

pub returns-in-Err : goal.returns-in-Err
returns-in-Err g c = loads_not c.args.snapshot c.requires.counted c.new-locks.result c.take_all.new.locks c.as_slice-3.result.now c.new-locks.ensures c.as_slice-3.ensures c.in-Err.error c.in-Err.ensures
