use Rattle.report_judge.proofs.Found.{is_safe}
use Rattle.report_judge.proofs.laws.a_legal_report_is_safe.Goals as goal

pub returns : goal.returns
returns c = is_safe
