use Rattle.std.proofs.Common.{◌≡◌, None, BTreeMap, ◌∙◌, sym, ap, rules}
use Rattle.seata_types.specs.declared.rows.Row.{Row}
use Rattle.seata_types.specs.declared.rows.RowKey.{RowKey}
use Rattle.local_tables.specs.Rows.{is_key, row_at}
use Rattle.local_tables.proofs.ApplyLaws.{set_value_none}
use Rattle.local_tables.proofs.applying.set_row.Goals as goal

pub returns-in_default : goal.returns-in_default
returns-in_default c =
    let none : row_at c.args.rows.now.entries c.args.key.now ≡ None = search rules in
    ap (λ (m : BTreeMap RowKey Row). m.entries) c.get_mut.follows.holds-at-none ∙ sym (set_value_none (is_key c.args.key.now) c.args.rows.now.entries c.args.row none)
