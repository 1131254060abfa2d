use Rattle.std.proofs.Common.{◌≡◌}
use Rattle.std.specs.Vec.Iter.{into_iter_items}
use Rattle.local_tables.specs.Calls.{insert_all}
use Rattle.local_tables.specs.Lookups.{IsRising}
use Rattle.local_tables.proofs.state.insert_made.Given as goal

abbrev pub invariant-loop-key : goal.invariant-loop-key
invariant-loop-key l = record {
  so_far : insert_all l.map (into_iter_items l.key-iterator) ≡ insert_all l.initial.map l.fn.made.items;
  in_order : IsRising l.initial.map → IsRising l.map;
}
