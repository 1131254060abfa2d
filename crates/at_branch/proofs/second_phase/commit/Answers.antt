use Rattle.std.proofs.Common.{[]}
use Rattle.seata_types.specs.declared.ids.Place.TheVariants as place
use Rattle.resource_store.specs.Keeping.{setting_of}
use Rattle.rule_calls.specs.Calls.{bare, numbered}
use Rattle.rule_calls.proofs.CallLaws.{fails_as, leaves_err, leaves_ok, takes, tells_as}
use Rattle.at_branch.specs.SecondPhase.{committed_by, committing}
use Rattle.at_branch.proofs.second_phase.commit.Goals as goal

pub carry_out-requires-clause-taken : goal.carry_out-requires-clause-taken
carry_out-requires-clause-taken g c =
    takes g.D.Disk.state bare (committing c.args.leg) [] c.args.store.now _ c.memory.ensures.known c.at_commit-answer.result
    (λ ts same. c.at_commit-answer.ensures (numbered bare (setting_of c.args.store.now)) ts 0 0 place.Tc) tt

pub returns-in-Ok-clause-answer : goal.returns-in-Ok-clause-answer
returns-in-Ok-clause-answer g c =
    tells_as g.D.Disk.state bare (committing c.args.leg) [] c.args.store.now _ c.memory.ensures.known c.at_commit-answer.result
    (λ ts same. c.at_commit-answer.ensures (numbered bare (setting_of c.args.store.now)) ts 0 0 place.Tc)
    committed_by c.carry_out.new.store c.in-Ok.act c.committed_by.result c.committed_by.ensures c.in-Ok.ensures.gives

pub returns-in-Ok-clause-leaves : goal.returns-in-Ok-clause-leaves
returns-in-Ok-clause-leaves g c = leaves_ok g.D.Disk.state _ _ c.args.store.now c.carry_out.new.store c.in-Ok.act c.committed_by.result c.in-Ok.ensures.leaves

pub returns-in-Err-clause-answer : goal.returns-in-Err-clause-answer
returns-in-Err-clause-answer g c =
    fails_as g.D.Disk.state bare (committing c.args.leg) [] c.args.store.now _ c.memory.ensures.known c.at_commit-answer.result
    (λ ts same. c.at_commit-answer.ensures (numbered bare (setting_of c.args.store.now)) ts 0 0 place.Tc)
    committed_by c.carry_out.new.store c.in-Err.error c.in-Err.ensures.gives

pub returns-in-Err-clause-leaves : goal.returns-in-Err-clause-leaves
returns-in-Err-clause-leaves g c = leaves_err g.D.Disk.state _ _ c.args.store.now c.carry_out.new.store c.in-Err.error c.in-Err.ensures.leaves
