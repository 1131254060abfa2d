use Rattle.std.proofs.Common.{sym, ◌∙◌}
use Rattle.std.specs.Map.{keys_of}
use Rattle.local_tables.specs.Refusals.{change_key}
use Rattle.local_tables.specs.Rows.{put_all}
use Rattle.local_tables.specs.Touches.{is_taken}
use Rattle.local_tables.proofs.ListLaws.{find_hits}
use Rattle.local_tables.proofs.refusing.first_taken.Goals as goal

pub returns-then-is_taken : goal.returns-then-is_taken
returns-then-is_taken c =
    find_hits (is_taken (put_all c.args.rows.now.entries c.args.changes.now) (keys_of c.args.made.now)) change_key c.args.made.now _ _ _ c.loop-change-test.true c.change-item.is c.loop-change.invariant (sym c.if-is_taken.true ∙ c.is_taken.ensures)
