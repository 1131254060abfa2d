-- The rows that a test keeps of a map, by the passes that collect them.
use Rattle.std.proofs.Common.{◌≡◌, Bool, List, [], map, filter, sym, ap, ◌∙◌}
use Rattle.seata_types.specs.declared.rows.Row.{Row}
use Rattle.seata_types.specs.declared.rows.RowKey.{RowKey}
use Rattle.local_tables.specs.Rows.{Rows, Change, put_all, IsMap}
use Rattle.local_tables.specs.Calls.{insert_all}
use Rattle.local_tables.specs.Lookups.{kept}
use Rattle.local_tables.proofs.MapLaws.{rising_filter}
use Rattle.local_tables.proofs.PutLaws.{filter_put_all}
use Rattle.local_tables.proofs.InsertLaws.{insert_all_rising}

-- a pass that puts each row that passes into an empty map
pub collected : (p : RowKey × Row → Bool) (found rows left : Rows) → left ≡ [] → insert_all found (filter p left) ≡ insert_all [] (filter p rows) → IsMap rows → found ≡ filter p rows
collected p found rows left none so_far s =
    sym (ap (λ l. insert_all found (filter p l)) none) ∙ so_far ∙ insert_all_rising (filter p rows) (rising_filter p rows s)

-- a pass that lets each change stand among the rows collected
pub followed : (p : RowKey × Row → Bool) (found start rows : Rows) (left changes : List Change) → left ≡ [] → put_all found (map (kept p) left) ≡ put_all start (map (kept p) changes) → start ≡ filter p rows → IsMap rows
    → found ≡ filter p (put_all rows changes)
followed p found start rows left changes none so_far from s =
    sym (ap (λ l. put_all found (map (kept p) l)) none) ∙ so_far ∙ ap (λ l. put_all l (map (kept p) changes)) from ∙ sym (filter_put_all p rows changes s)
