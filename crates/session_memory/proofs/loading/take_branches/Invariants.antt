use Rattle.std.proofs.Common.{◌≡◌, drop}
use Rattle.session_memory.specs.Holding.{held_by_branches}
use Rattle.session_memory.specs.Loading.{are_taken, taken}
use Rattle.session_memory.proofs.loading.take_branches.Given as goal

abbrev pub invariant-loop-branch : goal.invariant-loop-branch
invariant-loop-branch g l = record {
  tests : are_taken l.locks (held_by_branches l.xid (drop l.branch-index l.branches)) ≡ are_taken l.initial.locks (held_by_branches l.xid l.branches);
  takes : taken l.locks (held_by_branches l.xid (drop l.branch-index l.branches)) ≡ taken l.initial.locks (held_by_branches l.xid l.branches);
}
