use Rattle.std.proofs.Common.{◌≡◌, ◌+◌, ◌≤◌, drop, count_by}
use Rattle.report_text.specs.Totals.{is_over_entry}
use Rattle.report_text.proofs.totals.count_over.Given as goal

abbrev pub invariant-loop-entry : goal.invariant-loop-entry
invariant-loop-entry l = record {
  so_far : l.count + count_by is_over_entry (drop l.entry-index l.sessions) ≡ count_by is_over_entry l.sessions;
  small : l.count ≤ l.entry-index;
}
