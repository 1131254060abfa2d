use Rattle.lock_table.proofs.Places.{holder_there, none_there}
use Rattle.lock_table.proofs.index.holder.Goals as goal

pub returns-in-Ok-clause-holder : goal.returns-in-Ok-clause-holder
returns-in-Ok-clause-holder g c = holder_there c.args.rows.now c.args.key.now c.in-Ok.at c.index-rows-at.result c.requires c.in-Ok.ensures.found

pub returns-in-Err-clause-holder : goal.returns-in-Err-clause-holder
returns-in-Err-clause-holder g c = none_there c.args.rows.now c.args.key.now c.in-Err.field-0 c.requires c.in-Err.ensures.missing
