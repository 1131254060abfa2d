use Rattle.std.proofs.Common.{◌≡◌, ◌≤◌, ◌∙◌, Some, List, [], length, refl, sym, ap, ap₂, subst}
use Rattle.seata_types.specs.declared.ids.Place.TheVariants as place
use Rattle.seata_types.specs.declared.limits.TheConstants.{FIELD_ITEMS}
use Rattle.seata_types.specs.declared.statements.Action.{Action}
use Rattle.seata_types.specs.declared.statements.Stmt.{Stmt}
use Rattle.durable_records.specs.declared.resources.ResourceRecord.TheVariants as log
use Rattle.resource_memory.specs.Known.{Known}
use Rattle.resource_rules.specs.declared.answers.Answer.{Answer as Ruling}
use Rattle.resource_store.specs.Keeping.{known, setting_of}
use Rattle.resource_store.proofs.LeftLaws.{leaves_all}
use Rattle.rule_calls.specs.Calls.{numbered}
use Rattle.rule_calls.proofs.CallLaws.{fails_as, leaves_err, leaves_ok, takes, tells_as, wants}
use Rattle.tcc_branch.specs.SecondPhase.{acting, cancelling, cancelled_on, ended_by}
use Rattle.tcc_branch.proofs.EndLaws.{places_of}
use Rattle.tcc_branch.proofs.second_phase.cancel.Goals as goal

pub cancel_for-requires : goal.cancel_for-requires
cancel_for-requires g c = subst (λ (ss : List Stmt). length ss ≤ FIELD_ITEMS) (sym c.as_slice.ensures) c.requires.statements

pub carry_out-requires-clause-taken : goal.carry_out-requires-clause-taken
carry_out-requires-clause-taken g c =
    takes g.D.Disk.state (acting c.args.action.now) (cancelling c.args.leg) [] c.args.store.now _ c.memory.ensures.known c.in-Ok.answer
    (λ ts same. c.in-Ok.ensures.rules (numbered (acting c.args.action.now) (setting_of c.args.store.now)) ts 1 1 c.args.action.now refl c.as_slice.ensures place.Tc)
    (places_of (known c.args.store.now).tables (λ (a : Action). a.cancels) c.args.action.now (log.Cancelled c.args.leg.xid c.args.leg.branch) c.requires.places)

pub returns-in-Ok-carry_out-clause-answer : goal.returns-in-Ok-carry_out-clause-answer
returns-in-Ok-carry_out-clause-answer g c =
    tells_as g.D.Disk.state (acting c.args.action.now) (cancelling c.args.leg) [] c.args.store.now _ c.memory.ensures.known c.in-Ok.answer
    (λ ts same. c.in-Ok.ensures.rules (numbered (acting c.args.action.now) (setting_of c.args.store.now)) ts 1 1 c.args.action.now refl c.as_slice.ensures place.Tc)
    ended_by c.carry_out.new.store c.in-Ok-carry_out.act c.ended_by.result c.ended_by.ensures c.in-Ok-carry_out.ensures.gives

pub returns-in-Ok-carry_out-clause-told : goal.returns-in-Ok-carry_out-clause-told
returns-in-Ok-carry_out-clause-told g c =
    c.ended_by.ensures ∙ ap ended_by (c.in-Ok-carry_out.ensures.gives.told ∙ ap (λ (a : Ruling). a.step.act) c.in-Ok.ensures.known)
    ∙ ap₂ (λ (k : Known) (ss : List Stmt). cancelled_on k c.args.leg ss) c.memory.ensures.known c.as_slice.ensures

pub returns-in-Ok-carry_out-clause-leaves : goal.returns-in-Ok-carry_out-clause-leaves
returns-in-Ok-carry_out-clause-leaves g c =
    leaves_ok g.D.Disk.state _ _ c.args.store.now c.carry_out.new.store c.in-Ok-carry_out.act c.ended_by.result c.in-Ok-carry_out.ensures.leaves

pub returns-in-Err-carry_out-clause-answer : goal.returns-in-Err-carry_out-clause-answer
returns-in-Err-carry_out-clause-answer g c =
    fails_as g.D.Disk.state (acting c.args.action.now) (cancelling c.args.leg) [] c.args.store.now _ c.memory.ensures.known c.in-Ok.answer
    (λ ts same. c.in-Ok.ensures.rules (numbered (acting c.args.action.now) (setting_of c.args.store.now)) ts 1 1 c.args.action.now refl c.as_slice.ensures place.Tc)
    ended_by c.carry_out.new.store c.in-Err-carry_out.error c.in-Err-carry_out.ensures.gives

pub returns-in-Err-carry_out-clause-leaves : goal.returns-in-Err-carry_out-clause-leaves
returns-in-Err-carry_out-clause-leaves g c =
    leaves_err g.D.Disk.state _ _ c.args.store.now c.carry_out.new.store c.in-Err-carry_out.error c.in-Err-carry_out.ensures.leaves

pub returns-in-Err-clause-answer : goal.returns-in-Err-clause-answer
returns-in-Err-clause-answer g c = wants g.D.Disk.state ended_by (acting c.args.action.now) (cancelling c.args.leg) [] c.args.store.now c.requires.up

pub returns-in-Err-clause-leaves : goal.returns-in-Err-clause-leaves
returns-in-Err-clause-leaves g c = leaves_all g.D.Disk.state c.args.store.now _ c.requires.up refl
