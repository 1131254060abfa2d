use Rattle.std.proofs.Common.{◌≡◌, ◌+◌, ◌≤◌, drop, count_by}
use Rattle.coordinator_core.specs.Counting.{is_unended_entry}
use Rattle.coordinator_core.proofs.counting.unended.Given as goal

abbrev pub invariant-loop-entry : goal.invariant-loop-entry
invariant-loop-entry l = record {
  so_far : l.count + count_by is_unended_entry (drop l.entry-index l.sessions) ≡ count_by is_unended_entry l.sessions;
  small : l.count ≤ l.entry-index;
}
