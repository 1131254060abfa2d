use Rattle.std.proofs.Common.{map, sym, subst}
use Rattle.local_txn.specs.Answers.{open_of}
use Rattle.local_txn.specs.OpenTickets.{open_at}
use Rattle.local_txn.specs.RowIndex.{KeepsRows}
use Rattle.local_txn.proofs.OpenLaws.{distinct}
use Rattle.local_txn.proofs.CallLaws.{keeps_counted}
use Rattle.local_txn.proofs.local_txns.LocalTxns.conflicted.Goals as goal

pub count_conflict-requires : goal.count_conflict-requires
count_conflict-requires c = distinct c.self.inside.boot c.self.inside.opened (map open_of c.self.inside.txns.items) c.self.invariant.apart

pub invariant_of-self : goal.invariant_of-self
invariant_of-self c =
    let opens = map open_of c.self.inside.txns.items in
    subst (λ os. KeepsRows c.self.inside.boot c.self.inside.opened os c.self.inside.rows.entries) (sym c.count_conflict.ensures.left)
    (keeps_counted c.self.inside.boot c.self.inside.opened opens c.self.inside.rows.entries c.args.ticket (open_at opens c.args.ticket) c.self.invariant)
