use Rattle.local_tables.proofs.ApplyLaws.{both_put}
use Rattle.local_tables.proofs.applying.put_sides.Goals as goal

pub returns-clause-done : goal.returns-clause-done
returns-clause-done c =
    both_put c.args.rows.now.entries _ _ c.args.way c.args.images.now c.requires.in_order c.requires.different c.in_ok-put_rows.ensures.done c.remove_rows.ensures
