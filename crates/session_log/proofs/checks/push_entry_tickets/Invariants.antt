use Rattle.std.proofs.Common.{◌≡◌, ◌++◌, take}
use Rattle.std.specs.List.{flat_map}
use Rattle.session_log.specs.Soundness.{branch_ticket}
use Rattle.session_log.proofs.checks.push_entry_tickets.Given as goal

abbrev pub invariant-loop-branch : goal.invariant-loop-branch
invariant-loop-branch l = l.out.items ≡ l.initial.out.items ++ flat_map branch_ticket (take l.branch-index l.branches)
