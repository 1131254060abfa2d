use Rattle.history_law.proofs.OpenEntries.{open_tickets_law}
use Rattle.history_law.proofs.laws.open_tickets_are_opened_and_not_ended.Goals as goal

pub returns : goal.returns
returns c = open_tickets_law
