use Rattle.std.proofs.Common.{◌≡◌, drop}
use Rattle.report_text.specs.Keeping.{calls_of_branches}
use Rattle.report_text.proofs.coordinator.note_branches.Given as goal

abbrev pub invariant-loop-branch : goal.invariant-loop-branch
invariant-loop-branch l = calls_of_branches (drop l.branch-index l.branches) l.calls ≡ calls_of_branches l.branches l.initial.calls
