use Rattle.std.proofs.Common.{refl}
use Rattle.seata_types.specs.declared.ids.Place.TheVariants as place
use Rattle.resource_store.specs.Keeping.{setting_of}
use Rattle.resource_store.proofs.LeftLaws.{leaves_all}
use Rattle.rule_calls.specs.Calls.{bare, numbered}
use Rattle.rule_calls.proofs.CallLaws.{fails_as, leaves_err, leaves_ok, takes, tells_as, wants}
use Rattle.at_branch.specs.SecondPhase.{rolled_by, rolling}
use Rattle.at_branch.proofs.second_phase.rollback.Goals as goal

pub carry_out-requires-clause-taken : goal.carry_out-requires-clause-taken
carry_out-requires-clause-taken g c =
    takes g.D.Disk.state bare (rolling c.args.leg) c.args.txns.now.opens c.args.store.now _ c.memory.ensures.known c.in-Ok.answer
    (λ ts same. c.in-Ok.ensures (numbered bare (setting_of c.args.store.now)) ts 0 0 same place.Tc) tt

pub returns-in-Ok-carry_out-clause-answer : goal.returns-in-Ok-carry_out-clause-answer
returns-in-Ok-carry_out-clause-answer g c =
    tells_as g.D.Disk.state bare (rolling c.args.leg) c.args.txns.now.opens c.args.store.now _ c.memory.ensures.known c.in-Ok.answer
    (λ ts same. c.in-Ok.ensures (numbered bare (setting_of c.args.store.now)) ts 0 0 same place.Tc)
    rolled_by c.carry_out.new.store c.in-Ok-carry_out.act c.rolled_by.result c.rolled_by.ensures c.in-Ok-carry_out.ensures.gives

pub returns-in-Ok-carry_out-clause-leaves : goal.returns-in-Ok-carry_out-clause-leaves
returns-in-Ok-carry_out-clause-leaves g c =
    leaves_ok g.D.Disk.state _ _ c.args.store.now c.carry_out.new.store c.in-Ok-carry_out.act c.rolled_by.result c.in-Ok-carry_out.ensures.leaves

pub returns-in-Err-carry_out-clause-answer : goal.returns-in-Err-carry_out-clause-answer
returns-in-Err-carry_out-clause-answer g c =
    fails_as g.D.Disk.state bare (rolling c.args.leg) c.args.txns.now.opens c.args.store.now _ c.memory.ensures.known c.in-Ok.answer
    (λ ts same. c.in-Ok.ensures (numbered bare (setting_of c.args.store.now)) ts 0 0 same place.Tc)
    rolled_by c.carry_out.new.store c.in-Err-carry_out.error c.in-Err-carry_out.ensures.gives

pub returns-in-Err-carry_out-clause-leaves : goal.returns-in-Err-carry_out-clause-leaves
returns-in-Err-carry_out-clause-leaves g c =
    leaves_err g.D.Disk.state _ _ c.args.store.now c.carry_out.new.store c.in-Err-carry_out.error c.in-Err-carry_out.ensures.leaves

pub returns-in-Err-clause-answer : goal.returns-in-Err-clause-answer
returns-in-Err-clause-answer g c = wants g.D.Disk.state rolled_by bare (rolling c.args.leg) c.args.txns.now.opens c.args.store.now c.requires

pub returns-in-Err-clause-leaves : goal.returns-in-Err-clause-leaves
returns-in-Err-clause-leaves g c = leaves_all g.D.Disk.state c.args.store.now _ c.requires refl
