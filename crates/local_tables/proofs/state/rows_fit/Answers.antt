use Rattle.std.proofs.Common.{ℕ, nat_le, ap, sym, ◌∙◌, arith}
use Rattle.std.specs.Map.{keys_of}
use Rattle.std.proofs.lemmas.Map.Keys.{IsDistinct-from_sorted}
use Rattle.seata_types.specs.Orders.{key_cmp}
use Rattle.seata_types.specs.declared.limits.TheConstants.{RESOURCE_ROWS}
use Rattle.local_tables.proofs.CountLaws.{length_put_all, fits_under}
use Rattle.local_tables.proofs.state.rows_fit.Goals as goal

pub returns-then-most-le-RESOURCE_ROWS : goal.returns-then-most-le-RESOURCE_ROWS
returns-then-most-le-RESOURCE_ROWS c =
    let changes = c.args.changes.now in
    let total = length_put_all c.args.rows.now.entries changes c.requires.in_order (IsDistinct-from_sorted key_cmp (keys_of changes) c.requires.rising) in
    sym (fits_under _ RESOURCE_ROWS (omega (arith, c.if-most-le-RESOURCE_ROWS.true)))
    ∙ fits_under _ RESOURCE_ROWS (omega (arith, total, c.puts.ensures.count, c.len.ensures.len, c.if-most-le-RESOURCE_ROWS.true))

pub overflow_sub-result : goal.overflow_sub-result
overflow_sub-result c =
    let changes = c.args.changes.now in
    let total = length_put_all c.args.rows.now.entries changes c.requires.in_order (IsDistinct-from_sorted key_cmp (keys_of changes) c.requires.rising) in
    omega (arith, total, c.puts.ensures.count, c.stood.ensures, c.len.ensures.len)

pub returns-else-most-le-RESOURCE_ROWS : goal.returns-else-most-le-RESOURCE_ROWS
returns-else-most-le-RESOURCE_ROWS c =
    let changes = c.args.changes.now in
    let total = length_put_all c.args.rows.now.entries changes c.requires.in_order (IsDistinct-from_sorted key_cmp (keys_of changes) c.requires.rising) in
    ap (λ (n : ℕ). nat_le n RESOURCE_ROWS) (omega (arith, total, c.puts.ensures.count, c.stood.ensures, c.len.ensures.len))
