use Rattle.std.proofs.Common.{◌≡◌, ◌+◌, ◌++◌, length}
use Rattle.std.specs.Vec.Iter.{into_iter_items}
use Rattle.scenario_reader.specs.Resources.{named_rows}
use Rattle.scenario_reader.proofs.resources.name_rows.Given as goal

abbrev pub invariant-loop-row : goal.invariant-loop-row
invariant-loop-row l =
    record {
      named : l.opening.items ++ named_rows l.name (into_iter_items l.row-iterator) ≡ l.initial.opening.items ++ named_rows l.name l.fn.rows;
      counted : length l.opening.items + length (into_iter_items l.row-iterator) ≡ length l.initial.opening.items + length l.fn.rows;
    }
