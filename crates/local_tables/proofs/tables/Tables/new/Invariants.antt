use Rattle.std.proofs.Common.{◌≡◌, map, []}
use Rattle.std.specs.Vec.Iter.{into_iter_items}
use Rattle.local_tables.specs.Rows.{comes, opening_rows, put_all}
use Rattle.local_tables.specs.Sound.{IsSound}
use Rattle.local_tables.proofs.tables.Tables.new.Given as goal

abbrev pub invariant-loop-name : goal.invariant-loop-name
invariant-loop-name l = record {
  so_far : put_all l.rows.entries (map comes (opening_rows l.resource l.schema (into_iter_items l.name-iterator))) ≡ put_all [] (map comes (opening_rows l.resource l.schema l.fn.opening));
  sound : IsSound l.schema l.rows.entries;
}
