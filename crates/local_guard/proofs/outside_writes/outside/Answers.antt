use Rattle.std.proofs.Common.{◌∙◌, Result, Ok, Err, refl, sym, ap, subst}
use Rattle.seata_types.specs.declared.acts.Act.{Act}
use Rattle.seata_types.specs.declared.errors.StoreError.{StoreError}
use Rattle.seata_types.specs.declared.messages.Input.TheVariants as input
use Rattle.resource_memory.specs.Known.{Known}
use Rattle.resource_rules.specs.Apart.{writes_on}
use Rattle.resource_rules.specs.declared.answers.Answer.{Answer as Ruling}
use Rattle.resource_store.specs.Answers.{Gives, Leaves}
use Rattle.resource_store.specs.Keeping.{known, setting_of}
use Rattle.resource_store.proofs.AnswerLaws.{gives_nothing}
use Rattle.resource_store.proofs.LeftLaws.{leaves_all}
use Rattle.rule_calls.specs.Calls.{GivesAs, numbered, told_of}
use Rattle.rule_calls.proofs.CallLaws.{fails_as, leaves_err, leaves_ok, reads_err, reads_ok, takes, tells_as, wants}
use Rattle.local_guard.specs.Outside.{Written, told, writing, written_by}
use Rattle.local_guard.specs.declared.answers.OutsideError.{OutsideError}
use Rattle.local_guard.proofs.OutsideLaws.{fails_so, has_places, here}
use Rattle.local_guard.proofs.outside_writes.outside.Goals as goal

pub carry_out-requires-clause-taken : goal.carry_out-requires-clause-taken
carry_out-requires-clause-taken g c =
    takes g.D.Disk.state (writing c.args.number c.args.stmts.now) (input.Outside c.args.number) c.args.txns.now.opens c.args.store.now _ c.memory.ensures.known c.in-Ok.answer
    (λ ts same. c.in-Ok.ensures.rules (numbered (writing c.args.number c.args.stmts.now) (setting_of c.args.store.now)) ts (here c.args.number c.args.stmts.now) same)
    (has_places c.args.number c.args.stmts.now (known c.args.store.now).tables c.requires.places)

pub returns-in-Ok-carry_out-clause-writes : goal.returns-in-Ok-carry_out-clause-writes
returns-in-Ok-carry_out-clause-writes g c =
    subst (λ (r : Result Written StoreError). GivesAs g.D.Disk.state written_by (writing c.args.number c.args.stmts.now) (input.Outside c.args.number) c.args.txns.now.opens r c.args.store.now c.carry_out.new.store)
    (sym c.written_by.ensures)
    (tells_as g.D.Disk.state (writing c.args.number c.args.stmts.now) (input.Outside c.args.number) c.args.txns.now.opens c.args.store.now _ c.memory.ensures.known c.in-Ok.answer
    (λ ts same. c.in-Ok.ensures.rules (numbered (writing c.args.number c.args.stmts.now) (setting_of c.args.store.now)) ts (here c.args.number c.args.stmts.now) same)
    written_by c.carry_out.new.store c.in-Ok-carry_out.act (written_by c.in-Ok-carry_out.act) refl c.in-Ok-carry_out.ensures.gives)

pub returns-in-Ok-carry_out-clause-known : goal.returns-in-Ok-carry_out-clause-known
returns-in-Ok-carry_out-clause-known g c =
    subst (λ (r : Result Written StoreError). Gives g.D.Disk.state (told_of written_by (writes_on (known c.args.store.now) c.args.txns.now.opens c.args.number c.args.stmts.now)) r c.args.store.now c.carry_out.new.store)
    (sym c.written_by.ensures)
    (subst (λ (a : Ruling). Gives g.D.Disk.state (told_of written_by a) (Ok (written_by c.in-Ok-carry_out.act)) c.args.store.now c.carry_out.new.store)
    (c.in-Ok.ensures.known ∙ ap (λ (k : Known). writes_on k c.args.txns.now.opens c.args.number c.args.stmts.now) c.memory.ensures.known)
    (reads_ok g.D.Disk.state written_by c.in-Ok.answer c.args.store.now c.carry_out.new.store c.in-Ok-carry_out.act (written_by c.in-Ok-carry_out.act) refl c.in-Ok-carry_out.ensures.gives))

pub returns-in-Ok-carry_out-clause-leaves : goal.returns-in-Ok-carry_out-clause-leaves
returns-in-Ok-carry_out-clause-leaves g c =
    subst (λ (r : Result Written StoreError). Leaves g.D.Disk.state r c.args.store.now c.carry_out.new.store) (sym c.written_by.ensures)
    (leaves_ok g.D.Disk.state Act Written c.args.store.now c.carry_out.new.store c.in-Ok-carry_out.act (written_by c.in-Ok-carry_out.act) c.in-Ok-carry_out.ensures.leaves)

pub returns-in-Err-carry_out-clause-writes : goal.returns-in-Err-carry_out-clause-writes
returns-in-Err-carry_out-clause-writes g c =
    subst (λ (r : Result Written StoreError). GivesAs g.D.Disk.state written_by (writing c.args.number c.args.stmts.now) (input.Outside c.args.number) c.args.txns.now.opens r c.args.store.now c.carry_out.new.store)
    (sym (ap (λ (e : OutsideError). told (Err e)) c.failed.ensures ∙ fails_so c.in-Err-carry_out.error))
    (fails_as g.D.Disk.state (writing c.args.number c.args.stmts.now) (input.Outside c.args.number) c.args.txns.now.opens c.args.store.now _ c.memory.ensures.known c.in-Ok.answer
    (λ ts same. c.in-Ok.ensures.rules (numbered (writing c.args.number c.args.stmts.now) (setting_of c.args.store.now)) ts (here c.args.number c.args.stmts.now) same)
    written_by c.carry_out.new.store c.in-Err-carry_out.error c.in-Err-carry_out.ensures.gives)

pub returns-in-Err-carry_out-clause-known : goal.returns-in-Err-carry_out-clause-known
returns-in-Err-carry_out-clause-known g c =
    subst (λ (r : Result Written StoreError). Gives g.D.Disk.state (told_of written_by (writes_on (known c.args.store.now) c.args.txns.now.opens c.args.number c.args.stmts.now)) r c.args.store.now c.carry_out.new.store)
    (sym (ap (λ (e : OutsideError). told (Err e)) c.failed.ensures ∙ fails_so c.in-Err-carry_out.error))
    (subst (λ (a : Ruling). Gives {A = Written} g.D.Disk.state (told_of written_by a) (Err c.in-Err-carry_out.error) c.args.store.now c.carry_out.new.store)
    (c.in-Ok.ensures.known ∙ ap (λ (k : Known). writes_on k c.args.txns.now.opens c.args.number c.args.stmts.now) c.memory.ensures.known)
    (reads_err g.D.Disk.state written_by c.in-Ok.answer c.args.store.now c.carry_out.new.store c.in-Err-carry_out.error c.in-Err-carry_out.ensures.gives))

pub returns-in-Err-carry_out-clause-leaves : goal.returns-in-Err-carry_out-clause-leaves
returns-in-Err-carry_out-clause-leaves g c =
    subst (λ (r : Result Written StoreError). Leaves g.D.Disk.state r c.args.store.now c.carry_out.new.store)
    (sym (ap (λ (e : OutsideError). told (Err e)) c.failed.ensures ∙ fails_so c.in-Err-carry_out.error))
    (leaves_err g.D.Disk.state Act Written c.args.store.now c.carry_out.new.store c.in-Err-carry_out.error c.in-Err-carry_out.ensures.leaves)

pub returns-in-Err-clause-writes : goal.returns-in-Err-clause-writes
returns-in-Err-clause-writes g c = wants g.D.Disk.state written_by (writing c.args.number c.args.stmts.now) (input.Outside c.args.number) c.args.txns.now.opens c.args.store.now c.requires.up

pub returns-in-Err-clause-known : goal.returns-in-Err-clause-known
returns-in-Err-clause-known g c =
    gives_nothing g.D.Disk.state c.args.store.now (told_of written_by (writes_on (known c.args.store.now) c.args.txns.now.opens c.args.number c.args.stmts.now)) c.requires.up

pub returns-in-Err-clause-leaves : goal.returns-in-Err-clause-leaves
returns-in-Err-clause-leaves g c = leaves_all g.D.Disk.state c.args.store.now _ c.requires.up refl
