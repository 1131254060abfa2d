use Rattle.std.proofs.Common.{◌∙◌, Ok, Err, ap, refl, subst}
use Rattle.resource_memory.specs.Known.{Known}
use Rattle.resource_rules.specs.Grants as looked
use Rattle.resource_rules.specs.declared.answers.Answer.{Answer as Ruling}
use Rattle.resource_store.specs.Answers.{Gives}
use Rattle.resource_store.specs.Keeping.{known}
use Rattle.resource_store.proofs.AnswerLaws.{gives_nothing}
use Rattle.resource_store.proofs.LeftLaws.{leaves_all}
use Rattle.rule_calls.specs.Calls.{told_of}
use Rattle.rule_calls.proofs.CallLaws.{leaves_err, leaves_ok, reads_err, reads_ok}
use Rattle.tcc_branch.specs.Tries.{tried_by}
use Rattle.tcc_branch.proofs.GrantLaws.{counted_try, grant_takes}
use Rattle.tcc_branch.proofs.TryLaws.{grant_stays}
use Rattle.tcc_branch.proofs.first_phase.grant.Goals as goal

pub granted-requires : goal.granted-requires
granted-requires g c = counted_try c.args.txn.now c.requires.may.of_kind c.args.store.now c.args.leg c.requires.may

pub carry_out-requires-clause-taken : goal.carry_out-requires-clause-taken
carry_out-requires-clause-taken g c =
    grant_takes c.args.txn.now c.requires.may.of_kind c.args.store.now c.args.leg c.requires.may c.memory.ensures.sound.rows _ c.memory.ensures.known c.in-Ok.answer c.in-Ok.ensures

pub returns-in-Ok-carry_out-clause-gives : goal.returns-in-Ok-carry_out-clause-gives
returns-in-Ok-carry_out-clause-gives g c =
    subst (λ (a : Ruling). Gives g.D.Disk.state (told_of tried_by a) (Ok c.tried_by.result) c.args.store.now c.carry_out.new.store)
    (c.in-Ok.ensures ∙ ap (λ (k : Known). looked.granted k c.args.txn.now c.args.leg c.args.txn.now.work) c.memory.ensures.known)
    (reads_ok g.D.Disk.state tried_by c.in-Ok.answer c.args.store.now c.carry_out.new.store c.in-Ok-carry_out.act c.tried_by.result c.tried_by.ensures c.in-Ok-carry_out.ensures.gives)

pub returns-in-Ok-carry_out-clause-leaves : goal.returns-in-Ok-carry_out-clause-leaves
returns-in-Ok-carry_out-clause-leaves g c =
    leaves_ok g.D.Disk.state _ _ c.args.store.now c.carry_out.new.store c.in-Ok-carry_out.act c.tried_by.result c.in-Ok-carry_out.ensures.leaves

pub returns-in-Ok-carry_out-clause-stays : goal.returns-in-Ok-carry_out-clause-stays
returns-in-Ok-carry_out-clause-stays g c =
    grant_stays g.D.Disk.state c.args.store.now c.carry_out.new.store c.args.txn.now c.args.leg c.requires.may.of_kind (known c.args.store.now) (Ok c.tried_by.result)
    (returns-in-Ok-carry_out-clause-gives g c)

pub returns-in-Err-carry_out-clause-gives : goal.returns-in-Err-carry_out-clause-gives
returns-in-Err-carry_out-clause-gives g c =
    subst (λ (a : Ruling). Gives g.D.Disk.state (told_of tried_by a) (Err c.in-Err-carry_out.error) c.args.store.now c.carry_out.new.store)
    (c.in-Ok.ensures ∙ ap (λ (k : Known). looked.granted k c.args.txn.now c.args.leg c.args.txn.now.work) c.memory.ensures.known)
    (reads_err g.D.Disk.state tried_by c.in-Ok.answer c.args.store.now c.carry_out.new.store c.in-Err-carry_out.error c.in-Err-carry_out.ensures.gives)

pub returns-in-Err-carry_out-clause-leaves : goal.returns-in-Err-carry_out-clause-leaves
returns-in-Err-carry_out-clause-leaves g c =
    leaves_err g.D.Disk.state _ _ c.args.store.now c.carry_out.new.store c.in-Err-carry_out.error c.in-Err-carry_out.ensures.leaves

pub returns-in-Err-clause-gives : goal.returns-in-Err-clause-gives
returns-in-Err-clause-gives g c =
    gives_nothing g.D.Disk.state c.args.store.now (told_of tried_by (looked.granted (known c.args.store.now) c.args.txn.now c.args.leg c.args.txn.now.work)) c.requires.up

pub returns-in-Err-clause-leaves : goal.returns-in-Err-clause-leaves
returns-in-Err-clause-leaves g c = leaves_all g.D.Disk.state c.args.store.now _ c.requires.up refl
