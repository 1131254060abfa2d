use Rattle.std.proofs.Common.{◌≡◌, ◌+◌, ◌-◌, ◌≤◌, ◌++◌, drop, length}
use Rattle.row_images.specs.Joining.{merged}
use Rattle.row_images.proofs.joined.join.Given as goal

abbrev pub invariant-loop-i : goal.invariant-loop-i
invariant-loop-i l =
    record {
      so_far : l.joined.items ++ merged (drop l.i l.first) (drop l.j l.second) ≡ merged l.first l.second;
      first : l.i ≤ length l.first;
      second : l.j ≤ length l.second;
    }

abbrev pub decreases-loop-i : goal.decreases-loop-i
decreases-loop-i l = (length l.first - l.i) + (length l.second - l.j)
