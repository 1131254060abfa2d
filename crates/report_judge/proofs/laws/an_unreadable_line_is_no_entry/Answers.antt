use Rattle.report_judge.proofs.OneReading.{no_entry}
use Rattle.report_judge.proofs.laws.an_unreadable_line_is_no_entry.Goals as goal

pub returns : goal.returns
returns c = no_entry
