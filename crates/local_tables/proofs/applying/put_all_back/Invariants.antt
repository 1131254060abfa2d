use Rattle.std.proofs.Common.{◌≡◌, map, length}
use Rattle.local_tables.specs.Sound.{given_back, kept_at}
use Rattle.local_tables.proofs.applying.put_all_back.Given as goal

abbrev pub invariant-loop-key : goal.invariant-loop-key
invariant-loop-key l =
    given_back l.rows.entries (map kept_at l.left.items) ≡ given_back l.initial.rows.entries (map kept_at l.initial.left.items)

abbrev pub decreases-loop-key : goal.decreases-loop-key
decreases-loop-key l = length l.left.items
