use Rattle.std.proofs.Common.{◌≡◌, List, map, Some, subst}
use Rattle.local_txn.specs.Answers.{Tickets, open_of}
use Rattle.local_txn.specs.OpenTickets.{AreDistinct, Open, open_at, last_of}
use Rattle.local_txn.proofs.OpenLaws.{distinct, last_found}
use Rattle.local_txn.proofs.local_txns.LocalTxns.next_to_send.Goals as goal

pub returns-clause-once : goal.returns-clause-once
returns-clause-once c =
    let each = distinct c.self.inside.boot c.self.inside.opened (map open_of c.self.inside.txns.items) c.self.invariant.apart in
    subst (λ (u : Tickets). AreDistinct u.opens) c.self.view_is each

pub returns-clause-found : goal.returns-clause-found
returns-clause-found c =
    let opens : List Open = map open_of c.self.inside.txns.items in
    let each = distinct c.self.inside.boot c.self.inside.opened opens c.self.invariant.apart in
    subst (λ (u : Tickets). (o : Open) → last_of u.opens ≡ Some o → open_at u.opens o.ticket ≡ Some o) c.self.view_is (last_found opens each)
