use Rattle.std.proofs.Common.{◌≡◌, ◌≤◌, drop, length}
use Rattle.durable_records.specs.ResourceOrder.{image_keys, read_keys}
use Rattle.history_rules.specs.ResourceRules.{with_rows}
use Rattle.resource_rules.proofs.asked.rows_asked.Given as goal

abbrev pub invariant-loop-at : goal.invariant-loop-at
invariant-loop-at l = record {
  within : l.at ≤ length l.reads;
  put : l.keys.items ≡ with_rows (image_keys l.txn.images) (read_keys (drop l.at l.reads));
}

abbrev pub decreases-loop-at : goal.decreases-loop-at
decreases-loop-at l = l.at
