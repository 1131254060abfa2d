use Rattle.std.proofs.Common.{◌≡◌, ◌∙◌, List, map, None, option_map, ap, sym, subst}
use Rattle.local_txn.specs.Answers.{open_of}
use Rattle.local_txn.specs.OpenTickets.{Open, open_at}
use Rattle.local_txn.specs.RowIndex.{KeepsRows}
use Rattle.local_txn.proofs.OpenLaws.{distinct, first_is_all, without_none}
use Rattle.local_txn.proofs.IndexLaws.{keeps_left}
use Rattle.local_txn.proofs.CallLaws.{of_slices, view_left}
use Rattle.local_txn.proofs.local_txns.LocalTxns.take.Goals as goal

pub invariant_of-self : goal.invariant_of-self
invariant_of-self c =
    let boot = c.self.inside.boot in
    let opened = c.self.inside.opened in
    let opens : List Open = map open_of c.self.inside.txns.items in
    let all = first_is_all opens c.args.ticket (distinct boot opened opens c.self.invariant.apart) in
    let none : open_at opens c.args.ticket ≡ None = sym c.take.ensures.taken ∙ ap (option_map open_of) c.in_err-txn.was in
    subst (λ os. KeepsRows boot opened os c.self.inside.rows.entries) (sym (c.take.ensures.left ∙ all ∙ without_none opens c.args.ticket none)) c.self.invariant

pub returns-in_err-txn-clause-left : goal.returns-in_err-txn-clause-left
returns-in_err-txn-clause-left c =
    let boot = c.self.inside.boot in
    let opened = c.self.inside.opened in
    let opens : List Open = map open_of c.self.inside.txns.items in
    let all = first_is_all opens c.args.ticket (distinct boot opened opens c.self.invariant.apart) in
    view_left boot opened opens c.args.self.now c.self.view_is _ c.args.ticket (c.take.ensures.left ∙ all)

pub invariant_of-self-2 : goal.invariant_of-self-2
invariant_of-self-2 c =
    let boot = c.self.inside.boot in
    let opened = c.self.inside.opened in
    let rows = c.self.inside.rows.entries in
    let opens : List Open = map open_of c.self.inside.txns.items in
    let all = first_is_all opens c.args.ticket (distinct boot opened opens c.self.invariant.apart) in
    let put = of_slices c.in_ok-txn.txn.images c.as_slice.result.now c.in_ok-txn.txn.reads c.as_slice-2.result.now c.close.new.rows.entries rows None c.as_slice.ensures c.as_slice-2.ensures c.close.ensures in
    subst (λ os. KeepsRows boot opened os c.close.new.rows.entries) (sym (c.take.ensures.left ∙ all))
    (keeps_left boot opened opens rows c.close.new.rows.entries c.args.ticket (open_of c.in_ok-txn.txn) c.self.invariant (sym c.take.ensures.taken ∙ ap (option_map open_of) c.in_ok-txn.was) put)

pub returns-clause-left : goal.returns-clause-left
returns-clause-left c =
    let boot = c.self.inside.boot in
    let opened = c.self.inside.opened in
    let opens : List Open = map open_of c.self.inside.txns.items in
    let all = first_is_all opens c.args.ticket (distinct boot opened opens c.self.invariant.apart) in
    view_left boot opened opens c.args.self.now c.self.view_is _ c.args.ticket (c.take.ensures.left ∙ all)
