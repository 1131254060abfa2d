use Rattle.history_audit.proofs.Taking.{verdict_of}
use Rattle.history_audit.proofs.audits.audit.Goals as goal

pub judge_all-verdict-requires-clause-first : goal.judge_all-verdict-requires-clause-first
judge_all-verdict-requires-clause-first c = (c.args.scenario.now, c.requires.runnable, c.in_ok-judge.ensures)

pub returns : goal.returns
returns c = verdict_of c.args.scenario.now c.requires.runnable c.in_ok-judge.judge c.args.entries.now c.in_ok-judge.ensures c.judge_all-verdict.result c.judge_all-verdict.ensures
