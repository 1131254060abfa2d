use Rattle.std.proofs.Common.{◌≡◌, ◌∙◌, sym, count_by, is_some, rules}
use Rattle.local_tables.specs.Rows.{Change}
use Rattle.local_tables.proofs.ListLaws.{count_by_map}
use Rattle.local_tables.proofs.state.puts.Goals as goal

pub returns-clause-count : goal.returns-clause-count
returns-clause-count c =
    let by_changes : c.count.result ≡ count_by (λ (change : Change). is_some change.1) c.args.changes.now = search rules in
    by_changes ∙ sym (count_by_map is_some (λ (change : Change). change.1) c.args.changes.now)
