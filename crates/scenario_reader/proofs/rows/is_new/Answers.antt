use Rattle.scenario_reader.proofs.rows.is_new.Goals as goal

pub returns-clause-answer : goal.returns-clause-answer
returns-clause-answer c = c.in_ok-insert.ensures.added

pub returns-clause-noted : goal.returns-clause-noted
returns-clause-noted c = c.in_ok-insert.ensures.updates.0
