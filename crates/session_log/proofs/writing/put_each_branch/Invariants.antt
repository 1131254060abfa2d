use Rattle.std.proofs.Common.{◌≡◌, ◌++◌, take}
use Rattle.std.specs.List.{flat_map}
use Rattle.byte_fields.specs.declared.layouts.KeyLayout.TheVariants as layout
use Rattle.session_log.specs.Snapshots.{branch_fields}
use Rattle.session_log.proofs.writing.put_each_branch.Given as goal

abbrev pub invariant-loop-branch : goal.invariant-loop-branch
invariant-loop-branch l = l.out.items ≡ l.initial.out.items ++ flat_map (branch_fields layout.Counted) (take l.branch-index l.branches)
