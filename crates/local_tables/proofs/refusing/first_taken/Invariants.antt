use Rattle.std.proofs.Common.{◌≡◌, drop}
use Rattle.std.specs.Map.{keys_of}
use Rattle.local_tables.specs.Rows.{put_all}
use Rattle.local_tables.specs.Touches.{is_taken}
use Rattle.std.proofs.Common.{find}
use Rattle.local_tables.proofs.refusing.first_taken.Given as goal

abbrev pub invariant-loop-change : goal.invariant-loop-change
invariant-loop-change l =
    find (is_taken (put_all l.rows.entries l.changes) (keys_of l.made)) (keys_of (drop l.change-index l.made)) ≡ find (is_taken (put_all l.rows.entries l.changes) (keys_of l.made)) (keys_of l.made)
