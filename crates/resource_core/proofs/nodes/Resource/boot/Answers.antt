use Rattle.std.proofs.Common.{◌∙◌, refl, ap, false}
use Rattle.local_txn.specs.Answers.{no_tickets}
use Rattle.resource_core.proofs.nodes.Resource.boot.Goals as goal

pub returns-in-Ok : goal.returns-in-Ok
returns-in-Ok g c = (
  refl,
  c.in-Ok.ensures,
  λ i. record c.args.self.now {
    branches = record c.args.self.now.branches { store = c.start.new.self; txns = (c.new.ensures ∙ ap no_tickets c.boot.ensures) i };
    down = false;
  },
)
