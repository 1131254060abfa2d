use Rattle.std.proofs.Common.{◌≡◌, ◌∙◌, ◌+◌, ◌∷◌, cond, List, map, drop, Some, ap, sym, arith}
use Rattle.std.specs.BTreeMap.{insert_entry}
use Rattle.std.proofs.lemmas.Grind.{common_steps}
use Rattle.seata_types.specs.Orders.{key_cmp}
use Rattle.seata_types.specs.declared.rows.RowKey.{RowKey}
use Rattle.local_tables.specs.Rows.{is_key}
use Rattle.local_tables.proofs.MapLaws.{at_insert}
use Rattle.local_txn.specs.RowIndex.{at}
use Rattle.local_txn.proofs.StepLaws.{next_there, next_among, next_others}
use Rattle.local_txn.proofs.rows.put_all.Goals as goal

pub loop-item-preserved : goal.loop-item-preserved
loop-item-preserved g c =
    let key = g.R.OfRow.row_key in
    let items = c.args.items.now in
    let ks : List RowKey = map key items in
    let rest : List RowKey = map key (drop (c.loop-item.item-index + 1) items) in
    let left : drop c.loop-item.item-index items ≡ c.item-item.result ∷ drop (c.loop-item.item-index + 1) items = grind (arith, common_steps) in
    let k : c.in_ok-key.key ≡ key c.item-item.result = c.in_ok-key.ensures ∙ c.key.ensures in
    let is : map key (drop c.loop-item.item-index items) ≡ c.in_ok-key.key ∷ rest = ap (map key) left ∙ ap (λ (q : RowKey). q ∷ rest) (sym k) in
    let made : c.insert.new.self.entries ≡ insert_entry key_cmp c.loop-item.rows.entries c.in_ok-key.key c.args.ticket = grind (arith, common_steps) in
    let put : (q : RowKey) → at c.insert.new.self.entries q ≡ cond (is_key c.in_ok-key.key q) (Some c.args.ticket) (at c.loop-item.rows.entries q) =
    λ q. ap (λ es. at es q) made ∙ at_insert c.loop-item.rows.entries c.in_ok-key.key c.args.ticket q in
    record {
      there = next_there ks _ rest c.in_ok-key.key c.args.rows.now.entries c.loop-item.rows.entries c.insert.new.self.entries is (Some c.args.ticket) put c.loop-item.invariant.there;
      others = next_others ks _ rest c.in_ok-key.key c.args.rows.now.entries c.loop-item.rows.entries c.insert.new.self.entries is (Some c.args.ticket) put c.loop-item.invariant.among c.loop-item.invariant.others;
      among = next_among ks _ rest c.in_ok-key.key c.args.rows.now.entries c.loop-item.rows.entries c.insert.new.self.entries is c.loop-item.invariant.among;
    }
