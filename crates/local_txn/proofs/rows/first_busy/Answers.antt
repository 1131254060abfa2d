use Rattle.std.proofs.Common.{◌≡◌, ◌∙◌, ◌+◌, ◌∷◌, List, map, drop, Some, ap, sym, arith}
use Rattle.std.proofs.lemmas.Grind.{common_steps}
use Rattle.seata_types.specs.declared.rows.RowKey.{RowKey}
use Rattle.local_txn.specs.RowIndex.{at, first_at, first_with}
use Rattle.local_txn.proofs.rows.first_busy.Goals as goal

pub returns-in-Some : goal.returns-in-Some
returns-in-Some g c =
    let key = g.R.OfRow.row_key in
    let items = c.args.items.now in
    let rest : List RowKey = map key (drop (c.loop-item.item-index + 1) items) in
    let left : drop c.loop-item.item-index items ≡ c.item-item.result ∷ drop (c.loop-item.item-index + 1) items = grind (arith, common_steps) in
    let found : at c.args.rows.now.entries c.key.result.now ≡ Some c.in-Some.by.now = sym c.in-Some.ensures.value in
    let first : first_at c.args.rows.now.entries (key c.item-item.result ∷ rest) ≡ Some (c.key-in-Some.result.now, c.in-Some.by.now) =
    ap (λ (k : RowKey). first_at c.args.rows.now.entries (k ∷ rest)) (sym c.key.ensures)
    ∙ ap (λ t. first_with c.key.result.now t (first_at c.args.rows.now.entries rest)) found
    ∙ ap (λ (k : RowKey). Some (k, c.in-Some.by.now)) (c.key.ensures ∙ sym c.key-in-Some.ensures) in
    sym first ∙ sym (ap (λ ks. first_at c.args.rows.now.entries (map key ks)) left) ∙ c.loop-item.invariant
