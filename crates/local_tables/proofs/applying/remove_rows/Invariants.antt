use Rattle.std.proofs.Common.{◌≡◌, drop, map, filter}
use Rattle.local_tables.specs.Rows.{put_all, side}
use Rattle.local_tables.specs.Sound.{removes}
use Rattle.local_tables.proofs.applying.remove_rows.Given as goal

abbrev pub invariant-loop-image : goal.invariant-loop-image
invariant-loop-image l =
    put_all l.rows.entries (filter removes (map (side l.way) (drop l.image-index l.images))) ≡ put_all l.initial.rows.entries (filter removes (map (side l.way) l.images))
