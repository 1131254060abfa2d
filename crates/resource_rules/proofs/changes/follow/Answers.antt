use Rattle.std.proofs.Common.{[], subst}
use Rattle.local_txn.proofs.IndexLaws.{free_rows}
use Rattle.resource_rules.specs.Laws.{MayFollow}
use Rattle.resource_rules.specs.declared.answers.Change.{Change}
use Rattle.resource_rules.proofs.changes.follow.Goals as goal

pub open-requires-clause-free : goal.open-requires-clause-free
open-requires-clause-free c = λ q h.
    free_rows c.args.txns.now.opens (record { images = c.in-Opens.txn.images; reads = c.in-Opens.txn.reads; touched = [] }) q
    (subst (λ (x : Change). MayFollow c.args.txns.now x) c.in-Opens.is c.requires).1.free h
