use Rattle.branch_tests.proofs.Openings.{execute_opens}
use Rattle.branch_tests.proofs.local_txns.execute.Goals as goal

pub returns : goal.returns
returns c = execute_opens c.args.txns.now c.execute-answer.new.self _ _ c.execute-answer.result c.execute-answer.ensures
