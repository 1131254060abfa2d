use Rattle.std.proofs.Common.{◌≡◌, ◌∙◌, ◌+◌, ◌∷◌, cond, List, map, drop, None, ap, sym, arith}
use Rattle.std.proofs.lemmas.Grind.{common_steps}
use Rattle.seata_types.specs.declared.rows.RowKey.{RowKey}
use Rattle.local_tables.specs.Rows.{is_key}
use Rattle.local_txn.specs.RowIndex.{at}
use Rattle.local_txn.proofs.StepLaws.{next_there}
use Rattle.local_txn.proofs.rows.take_all.Goals as goal

pub loop-item-preserved : goal.loop-item-preserved
loop-item-preserved g c =
    let key = g.R.OfRow.row_key in
    let items = c.args.items.now in
    let ks : List RowKey = map key items in
    let rest : List RowKey = map key (drop (c.loop-item.item-index + 1) items) in
    let left : drop c.loop-item.item-index items ≡ c.item-item.result ∷ drop (c.loop-item.item-index + 1) items = grind (arith, common_steps) in
    let is : map key (drop c.loop-item.item-index items) ≡ c.key.result.now ∷ rest = ap (map key) left ∙ ap (λ (q : RowKey). q ∷ rest) (sym c.key.ensures) in
    let put : (q : RowKey) → at c.remove.new.self.entries q ≡ cond (is_key c.key.result.now q) None (at c.loop-item.rows.entries q) = c.remove.ensures.updates.0 in
    next_there ks _ rest c.key.result.now c.args.rows.now.entries c.loop-item.rows.entries c.remove.new.self.entries is None put c.loop-item.invariant
