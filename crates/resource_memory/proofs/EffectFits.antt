-- An effect of statements, on tables whose rows fit, is one that a record may have.
use Rattle.std.proofs.Common.{◌≡◌, ◌+◌, ◌≤◌, ◌||◌, not, Bool, true, false, cond, length, List, [], ◌∷◌, count_by, Ok, refl, sym, ap, ap₂, ◌∙◌, arith}
use Rattle.std.specs.List.{list_any}
use Rattle.std.proofs.lemmas.Bool.{and_from, le-leb}
use Rattle.std.proofs.lemmas.List.Sums.{sum_by-cons}
use Rattle.seata_types.specs.declared.limits.TheConstants.{CALL_ROWS}
use Rattle.seata_types.specs.declared.rows.Image.{Image}
use Rattle.seata_types.specs.declared.rows.ReadRow.{ReadRow}
use Rattle.seata_types.specs.declared.rows.RowKey.{RowKey}
use Rattle.seata_types.specs.declared.statements.Stmt.{Stmt}
use Rattle.local_tables.specs.Calls.{effect}
use Rattle.local_tables.specs.FittingRows.{is_untouched}
use Rattle.local_tables.specs.Rows.{AreRows, Database, is_key}
use Rattle.local_tables.specs.declared.schemas.Effect.{Effect}
use Rattle.local_tables.proofs.EffectRowLaws.{effects_of_tables}
use Rattle.local_tables.proofs.FittingEffects as tables
use Rattle.durable_records.specs.Locks.{has_key}
use Rattle.durable_records.specs.ResourceOrder.{image_keys, read_keys, only_read}
use Rattle.resource_memory.specs.Changes.{fit}
use Rattle.resource_memory.proofs.Fits.{each_image_passes, each_read_passes, sorted_rises}

has_is : (images : List Image) (k : RowKey) → has_key (image_keys images) k ≡ list_any (λ i. is_key i.key k) images
has_is [] k = refl
has_is (i ∷ is) k = ap (λ b. is_key i.key k || b) (has_is is k)

longer : (b : Bool) (k : RowKey) (ks : List RowKey) → length (cond b (k ∷ ks) ks) ≡ cond b 1 0 + length ks
longer true k ks = let more : length (k ∷ ks) ≡ 1 + length ks = omega arith in more
longer false k ks = omega arith

only_counted : (images : List Image) (reads : List ReadRow) → length (only_read images reads) ≡ count_by (is_untouched images) reads
only_counted images [] = refl
only_counted images (r ∷ rs) =
    longer (not (has_key (image_keys images) r.key)) r.key (only_read images rs)
    ∙ ap₂ (λ b n. cond b 1 0 + n) (ap not (has_is images r.key)) (only_counted images rs)
    ∙ sym (sum_by-cons (λ x. cond (is_untouched images x) 1 0) r rs)

-- images and reads of an effect, on tables whose rows fit, pass
pub effects_fit : (db : Database) (ss : List Stmt) (e : Effect) → AreRows db → effect db ss ≡ Ok e → fit db e.images e.reads ≡ true
effects_fit db ss e rows is =
    let on = tables.effects_fit db ss e rows is in
    let order = effects_of_tables db ss e is in
    let alone = only_counted e.images e.reads in
    let rows_few = on.few in
    let few : length e.images + length (only_read e.images e.reads) ≤ CALL_ROWS = omega (arith, alone, rows_few) in
    and_from _ _ (each_image_passes db e.images on.images)
    (and_from _ _ (each_read_passes db e.reads on.reads)
    (and_from _ _ (sorted_rises (image_keys e.images) order.rising)
    (and_from _ _ (sorted_rises (read_keys e.reads) order.reads_rise) (le-leb (length e.images + length (only_read e.images e.reads)) CALL_ROWS few))))
