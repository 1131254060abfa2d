use Rattle.lab_calls.proofs.answers.put_fault.Goals as goal

pub returns-in-Limit : goal.returns-in-Limit
returns-in-Limit c = rw c.in-Limit.is c.put_numbered.ensures

pub returns-in-Sql : goal.returns-in-Sql
returns-in-Sql c = rw c.in-Sql.is c.put_numbered-in-Sql.ensures

pub returns-in-Mode : goal.returns-in-Mode
returns-in-Mode c = rw c.in-Mode.is c.put_at-in-Mode.ensures

pub returns-in-Name : goal.returns-in-Name
returns-in-Name c = rw c.in-Name.is c.put_at-in-Name.ensures
