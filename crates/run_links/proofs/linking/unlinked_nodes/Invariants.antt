use Rattle.std.proofs.Common.{◌≡◌, length}
use Rattle.std.specs.List.{AllByRecursion}
use Rattle.run_links.specs.Linked.{IsUnlinked}
use Rattle.run_links.proofs.linking.unlinked_nodes.Given as goal

abbrev pub invariant-loop : goal.invariant-loop
invariant-loop l = record {
  count : length l.nodes.items ≡ l.counter;
  none : AllByRecursion IsUnlinked l.nodes.items;
}
