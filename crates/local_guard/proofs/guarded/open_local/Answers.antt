use Rattle.std.proofs.Common.{subst}
use Rattle.local_tables.specs.Calls.{effect}
use Rattle.local_tables.specs.Rows.{Database}
use Rattle.rule_calls.specs.Openings.{TellsLocal}
use Rattle.rule_calls.proofs.OpeningLaws.{tells_local}
use Rattle.local_guard.proofs.guarded.open_local.Goals as goal

pub returns-clause-rules : goal.returns-clause-rules
returns-clause-rules g c =
    subst (λ (db : Database). TellsLocal c.args.txns.now c.args.number (effect db c.args.stmts.now) c.execute.result) c.tables.ensures
    (tells_local c.args.txns.now c.execute.new.self _ c.args.number _ c.execute.result c.execute.ensures)
