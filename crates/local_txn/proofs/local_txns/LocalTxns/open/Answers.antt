use Rattle.std.proofs.Common.{◌≡◌, ◌∙◌, ◌∷◌, ◌+◌, List, map, Some, ap, sym, subst}
use Rattle.local_txn.specs.Answers.{Tickets, open_of}
use Rattle.local_txn.specs.OpenTickets.{Open, ticket_with}
use Rattle.local_txn.specs.RowIndex.{KeepsRows}
use Rattle.local_txn.proofs.IndexLaws.{keeps_opened}
use Rattle.local_txn.proofs.CallLaws.{of_slices}
use Rattle.seata_types.specs.declared.ids.Ticket.{Ticket}
use Rattle.local_txn.proofs.local_txns.LocalTxns.open.Goals as goal

pub invariant_of-self-2 : goal.invariant_of-self-2
invariant_of-self-2 c =
    let boot = c.self.inside.boot in
    let opened = c.self.inside.opened in
    let rows = c.self.inside.rows.entries in
    let opens : List Open = map open_of c.self.inside.txns.items in
    let txn = c.args.txn in
    let boot_is : txn.ticket.boot ≡ boot = ap (λ (u : Ticket). u.boot) c.requires.ticket ∙ sym (ap (λ (u : Tickets). u.boot) c.self.view_is) in
    let seq_is : txn.ticket.seq ≡ opened + 1 = ap (λ (u : Ticket). u.seq) c.requires.ticket ∙ sym (ap (λ (u : Tickets). u.opened + 1) c.self.view_is) in
    let more : map open_of c.push_front_reserved.new.self.items ≡ open_of txn ∷ opens =
    ap (map open_of) c.push_front_reserved.ensures.items ∙ ap (λ xs. open_of txn ∷ map open_of xs) c.reserve.ensures.items in
    let put = of_slices txn.images c.as_slice-images.result.now txn.reads c.as_slice.result.now c.open.new.rows.entries rows (Some txn.ticket) c.as_slice-images.ensures c.as_slice.ensures c.in_ok-open.ensures.done in
    subst (λ os. KeepsRows boot (opened + 1) os c.open.new.rows.entries) (sym more)
    (keeps_opened boot opened opens rows c.open.new.rows.entries (open_of txn) c.self.invariant boot_is seq_is
    (λ r h. ap (λ (u : Tickets). ticket_with u.opens r) c.self.view_is ∙ c.requires.free r h) put)
