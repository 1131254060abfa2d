use Rattle.std.proofs.Common.{◌∙◌, sym, ap}
use Rattle.lock_table.specs.Locks.{first_held}
use Rattle.coordinator_rules.specs.Choices.{nobody}
use Rattle.coordinator_rules.proofs.RowSearch.{query_ok}
use Rattle.coordinator_rules.proofs.registering.query.Goals as goal

pub returns : goal.returns
returns g c =
    query_ok c.args.memory.now c.args.now c.args.from c.args.resource c.args.ticket c.args.check.now c.in_ok-found.found
    (ap (λ h. first_held h nobody c.args.check.now) (sym c.locks.ensures.rows) ∙ sym c.in_ok-found.ensures) c.held.result c.held.ensures.value c.held.ensures.framable
