use Rattle.std.proofs.Common.{Some, sym, subst}
use Rattle.local_tables.specs.Rows.{IsMap}
use Rattle.local_tables.proofs.ApplyLaws.{put_there}
use Rattle.local_tables.proofs.PutLaws.{map_put}
use Rattle.local_tables.proofs.applying.exchange.Goals as goal

pub returns-in-Ok-clause-done : goal.returns-in-Ok-clause-done
returns-in-Ok-clause-done c =
    put_there c.args.rows.now.entries _ c.args.key.now c.args.row.now _ _ c.requires c.in_ok-row.ensures c.in-Ok.ensures.old c.in-Ok.ensures.done

pub returns-in-Ok-clause-in_order : goal.returns-in-Ok-clause-in_order
returns-in-Ok-clause-in_order c =
    subst IsMap
    (sym (put_there c.args.rows.now.entries _ c.args.key.now c.args.row.now _ _ c.requires c.in_ok-row.ensures c.in-Ok.ensures.old c.in-Ok.ensures.done))
    (map_put c.args.rows.now.entries c.args.key.now (Some c.args.row.now) c.requires)
