use Rattle.std.proofs.Common.{◌≡◌, drop}
use Rattle.local_tables.specs.Sums.{sum_from}
use Rattle.local_tables.proofs.expressions.sum_from.Given as goal

abbrev pub invariant-loop-part : goal.invariant-loop-part
invariant-loop-part l =
    sum_from l.def l.row l.total (drop l.part-index l.rest) ≡ sum_from l.def l.row l.first l.rest
