use Rattle.local_tables.specs.Rows.{opened}
use Rattle.resource_memory.proofs.Steps.{kept_new, kept_opened}
use Rattle.resource_memory.proofs.memory.Memory.new.Goals as goal

pub invariant_of-result : goal.invariant_of-result
invariant_of-result c =
    kept_new (opened c.args.resource c.args.schema c.args.opening) _ _ _ _ (kept_opened c.args.resource c.args.schema c.args.opening)
    c.in_ok-tables.ensures c.new-2.ensures c.new-3.ensures c.new-4.ensures
