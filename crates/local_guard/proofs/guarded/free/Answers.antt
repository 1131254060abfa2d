use Rattle.std.proofs.Common.{None, Ok, Err, refl, subst}
use Rattle.resource_rules.specs.Locals.{lock_answered}
use Rattle.resource_rules.specs.declared.answers.Answer.{Answer as Ruling}
use Rattle.resource_store.specs.Answers.{Gives}
use Rattle.resource_store.proofs.AnswerLaws.{gives_nothing}
use Rattle.resource_store.proofs.LeftLaws.{leaves_all}
use Rattle.rule_calls.specs.Calls.{told_of}
use Rattle.rule_calls.proofs.CallLaws.{leaves_err, leaves_ok, reads_err, reads_ok}
use Rattle.local_guard.specs.Locals.{ended_by}
use Rattle.local_guard.proofs.LocalLaws.{local_takes}
use Rattle.local_guard.proofs.guarded.free.Goals as goal

pub carry_out-requires-clause-taken : goal.carry_out-requires-clause-taken
carry_out-requires-clause-taken g c = local_takes c.args.store.now c.args.txn.now c.requires.may c.in-Ok.answer c.in-Ok.ensures

pub returns-in-Ok-carry_out-clause-gives : goal.returns-in-Ok-carry_out-clause-gives
returns-in-Ok-carry_out-clause-gives g c =
    subst (λ (a : Ruling). Gives g.D.Disk.state (told_of ended_by a) (Ok c.ended_by.result) c.args.store.now c.carry_out.new.store) c.in-Ok.ensures
    (reads_ok g.D.Disk.state ended_by c.in-Ok.answer c.args.store.now c.carry_out.new.store c.in-Ok-carry_out.act c.ended_by.result c.ended_by.ensures c.in-Ok-carry_out.ensures.gives)

pub returns-in-Ok-carry_out-clause-leaves : goal.returns-in-Ok-carry_out-clause-leaves
returns-in-Ok-carry_out-clause-leaves g c =
    leaves_ok g.D.Disk.state _ _ c.args.store.now c.carry_out.new.store c.in-Ok-carry_out.act c.ended_by.result c.in-Ok-carry_out.ensures.leaves

pub returns-in-Err-carry_out-clause-gives : goal.returns-in-Err-carry_out-clause-gives
returns-in-Err-carry_out-clause-gives g c =
    subst (λ (a : Ruling). Gives g.D.Disk.state (told_of ended_by a) (Err c.in-Err-carry_out.error) c.args.store.now c.carry_out.new.store) c.in-Ok.ensures
    (reads_err g.D.Disk.state ended_by c.in-Ok.answer c.args.store.now c.carry_out.new.store c.in-Err-carry_out.error c.in-Err-carry_out.ensures.gives)

pub returns-in-Err-carry_out-clause-leaves : goal.returns-in-Err-carry_out-clause-leaves
returns-in-Err-carry_out-clause-leaves g c =
    leaves_err g.D.Disk.state _ _ c.args.store.now c.carry_out.new.store c.in-Err-carry_out.error c.in-Err-carry_out.ensures.leaves

pub returns-in-Err-clause-gives : goal.returns-in-Err-clause-gives
returns-in-Err-clause-gives g c = gives_nothing g.D.Disk.state c.args.store.now (told_of ended_by (lock_answered c.args.txn.now None)) c.requires.up

pub returns-in-Err-clause-leaves : goal.returns-in-Err-clause-leaves
returns-in-Err-clause-leaves g c = leaves_all g.D.Disk.state c.args.store.now _ c.requires.up refl
