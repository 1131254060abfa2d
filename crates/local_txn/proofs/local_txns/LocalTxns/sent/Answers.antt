use Rattle.std.proofs.Common.{◌≡◌, ◌∙◌, ◌∷◌, List, map, None, option_map, ap, sym, subst, arith}
use Rattle.std.proofs.lemmas.Grind.{common_steps}
use Rattle.local_txn.specs.Answers.{open_of}
use Rattle.local_txn.specs.OpenTickets.{Open, open_at, without}
use Rattle.local_txn.specs.RowIndex.{KeepsRows}
use Rattle.local_txn.proofs.OpenLaws.{distinct, first_is_all, without_none}
use Rattle.local_txn.proofs.IndexLaws.{keeps_again}
use Rattle.local_txn.proofs.CallLaws.{view_sent, view_not_sent}
use Rattle.local_txn.proofs.local_txns.LocalTxns.sent.Goals as goal

pub invariant_of-self : goal.invariant_of-self
invariant_of-self c =
    let boot = c.self.inside.boot in
    let opened = c.self.inside.opened in
    let rows = c.self.inside.rows.entries in
    let opens : List Open = map open_of c.self.inside.txns.items in
    let all = first_is_all opens c.args.ticket (distinct boot opened opens c.self.invariant.apart) in
    let again : map open_of c.push_front_reserved.new.self.items ≡ open_of c.in-Some.txn ∷ without opens c.args.ticket =
    ap (map open_of) c.push_front_reserved.ensures.items ∙ ap (λ (os : List Open). open_of c.in-Some.txn ∷ os) (c.in-Some.ensures.left ∙ all) in
    subst (λ os. KeepsRows boot opened os rows) (sym again) (keeps_again boot opened opens rows c.args.ticket (open_of c.in-Some.txn) c.self.invariant (sym c.in-Some.ensures.taken))

pub returns-in-Some : goal.returns-in-Some
returns-in-Some c =
    let boot = c.self.inside.boot in
    let opened = c.self.inside.opened in
    let opens : List Open = map open_of c.self.inside.txns.items in
    let all = first_is_all opens c.args.ticket (distinct boot opened opens c.self.invariant.apart) in
    let again : map open_of c.push_front_reserved.new.self.items ≡ open_of c.in-Some.txn ∷ without opens c.args.ticket =
    ap (map open_of) c.push_front_reserved.ensures.items ∙ ap (λ (os : List Open). open_of c.in-Some.txn ∷ os) (c.in-Some.ensures.left ∙ all) in
    view_sent boot opened opens c.args.self.now c.self.view_is _ c.args.ticket (open_of c.in-Some.txn) c.in-Some.ensures.taken again

pub invariant_of-self-in_default : goal.invariant_of-self-in_default
invariant_of-self-in_default c =
    let boot = c.self.inside.boot in
    let opened = c.self.inside.opened in
    let opens : List Open = map open_of c.self.inside.txns.items in
    let all = first_is_all opens c.args.ticket (distinct boot opened opens c.self.invariant.apart) in
    let is : c.take.result ≡ None = grind (arith, common_steps) in
    let none : open_at opens c.args.ticket ≡ None = sym c.take.ensures.taken ∙ ap (option_map open_of) is in
    subst (λ os. KeepsRows boot opened os c.self.inside.rows.entries) (sym (c.take.ensures.left ∙ all ∙ without_none opens c.args.ticket none)) c.self.invariant

pub returns-in_default : goal.returns-in_default
returns-in_default c =
    let boot = c.self.inside.boot in
    let opened = c.self.inside.opened in
    let opens : List Open = map open_of c.self.inside.txns.items in
    let all = first_is_all opens c.args.ticket (distinct boot opened opens c.self.invariant.apart) in
    let is : c.take.result ≡ None = grind (arith, common_steps) in
    let none : open_at opens c.args.ticket ≡ None = sym c.take.ensures.taken ∙ ap (option_map open_of) is in
    view_not_sent boot opened opens c.args.self.now c.self.view_is _ c.args.ticket none (c.take.ensures.left ∙ all)
