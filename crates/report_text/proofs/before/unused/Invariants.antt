use Rattle.std.proofs.Common.{◌≡◌, ◌+◌, ◌++◌, drop}
use Rattle.report_text.specs.Following.{unused_from}
use Rattle.report_text.proofs.before.unused.Given as goal

abbrev pub invariant-loop-k : goal.invariant-loop-k
invariant-loop-k l =
    l.made.items ++ unused_from (l.k + 1) (drop l.k l.defs) ≡ unused_from 1 l.defs
