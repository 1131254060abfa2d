use Rattle.std.proofs.Common.{◌≡◌, ◌≤◌, ◌+◌, ◌++◌, ◌∙◌, None, Err, length, ap, sym, subst}
use Rattle.seata_types.specs.declared.limits.TheConstants.{BODY_BYTES}
use Rattle.durable_records.specs.declared.coordinators.SessionRecord.{SessionRecord}
use Rattle.durable_records.specs.SessionOrder.{is_within}
use Rattle.lock_table.specs.Answers.{FindsConflict}
use Rattle.lock_table.specs.Locks.{first_locked, locks}
use Rattle.session_log.specs.declared.sessions.Snapshot.{Snapshot}
use Rattle.session_log.specs.Records.{record_bytes}
use Rattle.session_memory.specs.Changes.{granted_record, may_come}
use Rattle.session_memory.specs.Holding.{held_in}
use Rattle.session_store.specs.Keeping.{Adds, known, managers_of, register_record, resources_of}
use Rattle.session_store.proofs.SessionLaws.{conflict_refuses, may_register}
use Rattle.session_store.proofs.sessions.Sessions.register.Goals as goal

pub returns-in-Err-clause-made : goal.returns-in-Err-clause-made
returns-in-Err-clause-made g c =
    rw (c.refused.ensures) (conflict_refuses g.D.Disk.state c.args.self.now _ c.args.xid (c.args.hold.now ++ c.args.check.now) c.in-Err.error
    (subst (λ (s : Snapshot). FindsConflict (locks (held_in s)) c.args.xid (c.args.hold.now ++ c.args.check.now) (Err c.in-Err.error)) c.memory-memory.ensures c.in-Err.ensures.found))

pub add_counted-made-requires-clause-allowed : goal.add_counted-made-requires-clause-allowed
add_counted-made-requires-clause-allowed g c =
    let is : c.in-Ok.item ≡ register_record (known c.args.self.now) c.args.xid c.args.place c.args.hold.now =
    c.in-Ok.ensures ∙ ap (λ n. granted_record c.args.xid n c.args.place c.args.hold.now) (c.next_branch-branch.ensures ∙ ap (λ (s : Snapshot). s.granted + 1) c.memory-memory.ensures) in
    ap (λ (r : SessionRecord). may_come (known c.args.self.now) r) is ∙ may_register (known c.args.self.now) c.args.xid c.args.place c.args.hold.now c.args.check.now c.requires.begin c.requires.new
    (subst (λ (s : Snapshot). first_locked (locks (held_in s)) c.args.xid (c.args.hold.now ++ c.args.check.now) ≡ None) c.memory-memory.ensures c.in_default.ensures.found)

pub add_counted-made-requires-clause-within : goal.add_counted-made-requires-clause-within
add_counted-made-requires-clause-within g c =
    let is : c.in-Ok.item ≡ register_record (known c.args.self.now) c.args.xid c.args.place c.args.hold.now =
    c.in-Ok.ensures ∙ ap (λ n. granted_record c.args.xid n c.args.place c.args.hold.now) (c.next_branch-branch.ensures ∙ ap (λ (s : Snapshot). s.granted + 1) c.memory-memory.ensures) in
    ap (λ (r : SessionRecord). is_within (managers_of c.args.self.now) (resources_of c.args.self.now) r) is ∙ c.requires.within

pub add_counted-made-requires-clause-small : goal.add_counted-made-requires-clause-small
add_counted-made-requires-clause-small g c =
    let is : c.in-Ok.item ≡ register_record (known c.args.self.now) c.args.xid c.args.place c.args.hold.now =
    c.in-Ok.ensures ∙ ap (λ n. granted_record c.args.xid n c.args.place c.args.hold.now) (c.next_branch-branch.ensures ∙ ap (λ (s : Snapshot). s.granted + 1) c.memory-memory.ensures) in
    subst (λ (r : SessionRecord). length (record_bytes r) ≤ BODY_BYTES) (sym is) c.requires.small

pub returns-in-Ok-made-clause-made : goal.returns-in-Ok-made-clause-made
returns-in-Ok-made-clause-made g c =
    let is : c.in-Ok.item ≡ register_record (known c.args.self.now) c.args.xid c.args.place c.args.hold.now =
    c.in-Ok.ensures ∙ ap (λ n. granted_record c.args.xid n c.args.place c.args.hold.now) (c.next_branch-branch.ensures ∙ ap (λ (s : Snapshot). s.granted + 1) c.memory-memory.ensures) in (
      subst (λ (s : Snapshot). first_locked (locks (held_in s)) c.args.xid (c.args.hold.now ++ c.args.check.now) ≡ None) c.memory-memory.ensures c.in_default.ensures.found,
      subst (λ (r : SessionRecord). Adds g.D.Disk.state r c.args.self.now c.add_counted-made.new.self) is c.in-Ok-made.ensures.made,
    )
