use Rattle.disk_journal.specs.Reading.{staged}
use Rattle.disk_journal.proofs.journal.stage.Goals as goal

pub returns-clause-staged : goal.returns-clause-staged
unfolding staged
returns-clause-staged c = rw (c.append-3.ensures.items, c.append-2.ensures.items, c.append.ensures.items, c.clear.ensures.items, c.to_be_bytes.ensures)
