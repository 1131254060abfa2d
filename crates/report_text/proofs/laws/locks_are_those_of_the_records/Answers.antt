use Rattle.report_text.proofs.LockLaws.{locks_alike}
use Rattle.report_text.proofs.laws.locks_are_those_of_the_records.Goals as goal

pub returns : goal.returns
returns c = locks_alike
