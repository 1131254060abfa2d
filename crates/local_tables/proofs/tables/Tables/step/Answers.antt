use Rattle.local_tables.proofs.TakeLaws.{no_table_inside, refused_inside}
use Rattle.local_tables.proofs.tables.Tables.step.Goals as goal

pub returns-in_default-clause-meaning : goal.returns-in_default-clause-meaning
returns-in_default-clause-meaning c =
    no_table_inside _ c.args.self.now c.args.call.now c.args.stmt.now _ c.self.view_is c.table_of.ensures c.in_default.ensures

pub returns-in-Some-refusal-clause-meaning : goal.returns-in-Some-refusal-clause-meaning
returns-in-Some-refusal-clause-meaning c =
    refused_inside _ c.args.self.now c.args.call.now c.args.stmt.now _ c.in-Some.def.now c.in-Some-refusal.why c.self.view_is c.table_of.ensures c.in-Some.ensures c.in-Some-refusal.ensures
