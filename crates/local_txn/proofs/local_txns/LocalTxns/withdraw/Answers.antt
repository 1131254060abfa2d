use Rattle.std.proofs.Common.{◌∙◌, ◌-◌, List, map}
use Rattle.local_txn.specs.Answers.{open_of}
use Rattle.local_txn.specs.OpenTickets.{Open}
use Rattle.local_txn.proofs.CallLaws.{tickets, last_counted, keeps_withdrawn, view_withdrawn, back}
use Rattle.local_txn.proofs.local_txns.LocalTxns.withdraw.Goals as goal

pub overflow_sub-opened : goal.overflow_sub-opened
overflow_sub-opened c =
    last_counted c.self.inside.boot c.self.inside.opened (map open_of c.self.inside.txns.items) c.args.self.now c.self.view_is c.self.inside.rows.entries c.self.invariant c.args.ticket c.requires.is_open c.requires.last

pub invariant_of-self : goal.invariant_of-self
invariant_of-self c =
    let opens : List Open = map open_of c.self.inside.txns.items in
    let left : List Open = map open_of c.self-2.inside.txns.items in
    keeps_withdrawn c.self.inside.boot c.self.inside.opened opens c.args.self.now c.self.view_is c.self.inside.rows.entries c.self.invariant c.args.ticket c.self-2.inside.boot c.self-2.inside.opened left
    c.self-2.inside.rows.entries c.requires.last (c.self-2.view_is ∙ c.take.ensures.left) c.self-2.invariant

pub returns-clause-back : goal.returns-clause-back
returns-clause-back c = λ before o same is.
    let opens : List Open = map open_of c.self.inside.txns.items in
    let left : List Open = map open_of c.self-2.inside.txns.items in
    let gone = view_withdrawn c.self.inside.boot c.self.inside.opened opens c.args.self.now c.self.view_is c.args.ticket c.self-2.inside.boot c.self-2.inside.opened left (c.self-2.view_is ∙ c.take.ensures.left) in
    back c.self.inside.boot c.self.inside.opened opens c.args.self.now c.self.view_is c.self.inside.rows.entries c.self.invariant c.args.ticket (tickets c.self-2.inside.boot (c.self.inside.opened - 1) left) before o gone same is
