use Rattle.seata_types.specs.declared.statements.Work.TheVariants as work
use Rattle.rule_calls.proofs.OpeningLaws.{tells_try}
use Rattle.tcc_branch.proofs.first_phase.prepare.Goals as goal

pub returns-clause-rules : goal.returns-clause-rules
returns-clause-rules c =
    tells_try c.args.txns.now c.prepare.new.self _ c.args.manager c.args.xid.0 c.args.call (work.Tcc c.args.action.now) c.prepare.result c.prepare.ensures
