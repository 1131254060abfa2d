use Rattle.std.proofs.Common.{◌≡◌, drop, map, filter}
use Rattle.local_tables.specs.Rows.{IsMap, put_all, side}
use Rattle.local_tables.specs.Sound.{given_back, kept_at, puts}
use Rattle.local_tables.proofs.applying.put_several.Given as goal

abbrev pub invariant-loop-image : goal.invariant-loop-image
invariant-loop-image l = record {
  so_far : put_all l.rows.entries (filter puts (map (side l.way) (drop l.image-index l.images))) ≡ put_all l.initial.rows.entries (filter puts (map (side l.way) l.images));
  back : given_back l.rows.entries (map kept_at l.kept.items) ≡ l.initial.rows.entries;
  in_order : IsMap l.rows.entries;
}
