use Rattle.std.proofs.Common.{◌≡◌, drop}
use Rattle.local_tables.specs.Sums.{set_cells}
use Rattle.local_tables.proofs.expressions.updated.Given as goal

abbrev pub invariant-loop-set : goal.invariant-loop-set
invariant-loop-set l =
    set_cells l.def l.row (drop l.set-index l.sets) l.cells.items ≡ set_cells l.def l.row l.sets l.row.0
