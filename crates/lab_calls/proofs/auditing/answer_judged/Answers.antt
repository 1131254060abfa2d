use Rattle.lab_calls.proofs.Audited.{judged_by}
use Rattle.lab_calls.proofs.auditing.answer_judged.Goals as goal

pub returns-in-Ok-clause-text : goal.returns-in-Ok-clause-text
returns-in-Ok-clause-text c = judged_by c.args.bytes.now c.in-Ok.found c.in-Ok.ensures c.judged.result c.judged.ensures.text c.judged.ensures.status
