use Rattle.std.proofs.Common.{◌≡◌, sym, subst, drop}
use Rattle.durable_records.specs.ResourceOrder.{image_keys, read_keys}
use Rattle.history_rules.specs.ResourceRules.{with_rows}
use Rattle.resource_rules.specs.Asked.{Rises}
use Rattle.resource_rules.proofs.AskedLaws.{rows_rise}
use Rattle.resource_rules.proofs.asked.rows_asked.Goals as goal

pub returns-clause-rise : goal.returns-clause-rise
returns-clause-rise c = λ rise.
    let put = c.loop-at.invariant.put in
    let of = c.of.ensures in
    let is : c.of.result ≡ with_rows (image_keys c.args.txn.now.images) (read_keys (drop c.loop-at.at c.args.txn.now.reads)) = cc in
    subst Rises (sym is) (rows_rise (image_keys c.args.txn.now.images) (read_keys (drop c.loop-at.at c.args.txn.now.reads)) rise)
