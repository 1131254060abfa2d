use Rattle.std.proofs.Common.{◌++◌, Err, subst}
use Rattle.lock_table.specs.Answers.{FindsConflict}
use Rattle.lock_table.specs.Locks.{locks}
use Rattle.lock_table.specs.declared.errors.HoldError.{HoldError}
use Rattle.session_memory.specs.Holding.{held_in}
use Rattle.session_memory.specs.Lookups.{status_in}
use Rattle.coordinator_rules.specs.Choices.{is_rolling}
use Rattle.coordinator_rules.proofs.RowSearch.{granted_rows, granted_sent}
use Rattle.coordinator_rules.proofs.TakesRows.{conflict_sent}
use Rattle.coordinator_rules.proofs.registering.by_rows.Goals as goal

pub returns-in-Ok-clause-value : goal.returns-in-Ok-clause-value
returns-in-Ok-clause-value g c = granted_rows c.args.memory.now c.args.xid c.args.place c.args.hold.now c.args.check.now c.grant.result c.in-Ok.ensures.found c.grant.ensures.value

pub returns-in-Ok-clause-sent : goal.returns-in-Ok-clause-sent
returns-in-Ok-clause-sent g c = granted_sent c.args.memory.now c.args.xid c.args.place c.args.hold.now c.args.check.now c.grant.result c.grant.ensures.framable c.grant.ensures.named

pub returns-in-Ok-tell_conflict-clause-sent : goal.returns-in-Ok-tell_conflict-clause-sent
returns-in-Ok-tell_conflict-clause-sent g c = λ from.
    let found = subst (λ (e : HoldError). FindsConflict (locks (held_in c.args.memory.now)) c.args.xid (c.args.hold.now ++ c.args.check.now) (Err e)) c.in-Err-Held.field-0-is c.in-Err-Held.ensures.found in
    conflict_sent c.args.memory.now from c.args.xid c.args.place c.args.hold.now c.args.check.now c.in-Err-Held.key c.in-Err-Held.by (is_rolling (status_in c.args.memory.now c.in-Err-Held.by.0))
    c.in-Ok-tell_conflict.step found c.in-Ok-tell_conflict.ensures.value c.in-Ok-tell_conflict.ensures.framable
