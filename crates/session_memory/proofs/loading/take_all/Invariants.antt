use Rattle.std.proofs.Common.{◌≡◌, drop}
use Rattle.session_memory.specs.Holding.{held}
use Rattle.session_memory.specs.Loading.{are_taken, taken}
use Rattle.session_memory.proofs.loading.take_all.Given as goal

abbrev pub invariant-loop-entry : goal.invariant-loop-entry
invariant-loop-entry g l = record {
  tests : are_taken l.locks (held (drop l.entry-index l.entries)) ≡ are_taken l.initial.locks (held l.entries);
  takes : taken l.locks (held (drop l.entry-index l.entries)) ≡ taken l.initial.locks (held l.entries);
}
