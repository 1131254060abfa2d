use Rattle.std.proofs.Common.{◌∙◌}
use Rattle.local_tables.proofs.ApplyLaws.{one_back}
use Rattle.local_tables.proofs.applying.put_all_back.Goals as goal

pub loop-key-preserved : goal.loop-key-preserved
loop-key-preserved c = one_back c.loop-key.rows.entries _ c.loop-key.left.items _ (c.in-Some.key, c.in-Some.old) c.in-Some.ensures.items c.put_back.ensures ∙ c.loop-key.invariant
