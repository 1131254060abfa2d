use Rattle.std.proofs.Common.{◌≡◌, ◌≤◌, vec_len}
use Rattle.run_rounds.proofs.work.workers_for.Given as goal

abbrev pub invariant-loop-number : goal.invariant-loop-number
invariant-loop-number l = record {
  made : vec_len l.workers ≡ l.number;
  dealt : l.own ≤ l.managers;
}
