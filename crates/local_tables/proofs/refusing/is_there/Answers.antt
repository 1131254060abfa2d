use Rattle.std.proofs.Common.{◌∙◌}
use Rattle.local_tables.proofs.PutLaws.{is_some_present}
use Rattle.local_tables.proofs.refusing.is_there.Goals as goal

pub returns : goal.returns
returns c =
    c.is_some.ensures ∙ is_some_present c.args.rows.now.entries c.args.changes.now c.args.key.now c.present.result c.requires.in_order c.requires.rising c.present.ensures
