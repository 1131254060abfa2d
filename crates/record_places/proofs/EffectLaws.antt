-- The effect of statements has places.
use Rattle.std.proofs.Common.{◌≡◌, ℕ, ◌≤◌, List, [], ◌∷◌, length, None, Result, Ok, Err, refl, subst, arith}
use Rattle.std.specs.List.{AllByRecursion}
use Rattle.std.proofs.lemmas.List.Elements.{All-from_recursion, recursion_from_All}
use Rattle.std.proofs.lemmas.Option.{none-some}
use Rattle.seata_types.specs.declared.errors.StmtError.{StmtError}
use Rattle.seata_types.specs.declared.limits.TheConstants.{CALL_ROWS}
use Rattle.seata_types.specs.declared.rows.Image.{Image}
use Rattle.seata_types.specs.declared.rows.ReadRow.{ReadRow}
use Rattle.seata_types.specs.declared.rows.Row.{Row}
use Rattle.seata_types.specs.declared.rows.RowKey.{RowKey}
use Rattle.seata_types.specs.declared.statements.Stmt.{Stmt}
use Rattle.byte_fields.specs.declared.layouts.KeyLayout.TheVariants as layout
use Rattle.byte_fields.specs.Layout.{FitsImageIn, FitsReadIn}
use Rattle.local_tables.specs.Calls.{Call, nothing, steps, effect, effect_of, image_of, read_of, to_effect}
use Rattle.local_tables.specs.EffectRows.{IsEffectOf, read_key}
use Rattle.local_tables.specs.FittingRows.{IsEffectOn}
use Rattle.local_tables.specs.Rows.{Database, Change, IsImageOf, IsReadOf, key_of}
use Rattle.durable_records.specs.ResourceOrder.{image_keys, read_keys}
use Rattle.local_tables.specs.declared.schemas.Effect.{Effect}
use Rattle.local_tables.proofs.EffectRowLaws.{all_mapped, effects_of_tables}
use Rattle.local_tables.proofs.FittingEffects.{effects_fit}
use Rattle.record_places.specs.Laws.{EffectsHaveKeys, EffectsHavePlaces, HasKeysOf}
use Rattle.record_places.specs.Within.{AreKeysOf, AreTablesWithin, IsEffectWithin, IsKeyOf}
use Rattle.record_places.proofs.CallLaws.{IsCallWithin, IsChangeWithin, IsEntryWithin, at_within, nothing_within, rows_within, steps_within}
use Rattle.record_places.proofs.OrderLaws.{ordered, reads_few}
use Rattle.record_places.proofs.SizeLaws.{IsImageWithin, IsReadWithin, image_fits, images_size, read_fits, reads_size}

module _ (db : Database) (w : AreTablesWithin db) where
  image_within : (c : Change) → IsChangeWithin c → IsImageWithin (image_of db.rows c)
  image_within c is = record { key = is.0; before = at_within db.rows c.0 (rows_within db w); after = is.1 }

  read_within : (e : RowKey × Row) → IsEntryWithin e → IsReadWithin (read_of e)
  read_within e is = record { key = is.0; row = is.1 }

  whole : (stmts : List Stmt) (e : Effect) → AllByRecursion IsImageWithin e.images → AllByRecursion IsReadWithin e.reads → IsEffectOn db e → IsEffectOf db stmts e → IsEffectWithin e
  whole stmts e images reads on of =
      let few_images : length e.images ≤ CALL_ROWS = (let few = on.few in omega (arith, few)) in
      let few_reads = reads_few e.images e.reads of.reads_rise on.few in
      let one = images_size e.images images in
      let two = reads_size e.reads reads in
      record {
        images = record {
          count = omega (arith, few_images);
          each = All-from_recursion (FitsImageIn layout.Counted) e.images (each_image e.images images);
          order = ordered key_of None e.images (λ l none. absurd (none-some l none)) of.rising;
        };
        reads = record {
          count = omega (arith, few_reads);
          each = All-from_recursion (FitsReadIn layout.Counted) e.reads (each_read e.reads reads);
          order = ordered read_key None e.reads (λ l none. absurd (none-some l none)) of.reads_rise;
        };
        room = omega (arith, few_images, few_reads, one, two);
      }
    where
      each_image : (is : List Image) → AllByRecursion IsImageWithin is → AllByRecursion (FitsImageIn layout.Counted) is
      each_image [] all = tt
      each_image (i ∷ is) all = (image_fits i all.0, each_image is all.1)

      each_read : (rs : List ReadRow) → AllByRecursion IsReadWithin rs → AllByRecursion (FitsReadIn layout.Counted) rs
      each_read [] all = tt
      each_read (r ∷ rs) all = (read_fits r all.0, each_read rs all.1)

  effect_within : (stmts : List Stmt) (r : Result Call (ℕ × StmtError)) (e : Effect) → ((call : Call) → r ≡ Ok call → IsCallWithin call) → IsEffectOn db e → IsEffectOf db stmts e → to_effect db r ≡ Ok e → IsEffectWithin e
  effect_within stmts (Ok call) e is on of made =
      let same : effect_of db call ≡ e = cc in
      let h = is call refl in
      whole stmts e
      (subst (λ (x : Effect). AllByRecursion IsImageWithin x.images) same (all_mapped IsChangeWithin IsImageWithin (image_of db.rows) image_within call.changes h.changed))
      (subst (λ (x : Effect). AllByRecursion IsReadWithin x.reads) same (all_mapped IsEntryWithin IsReadWithin read_of read_within call.reads h.read))
      on of
  effect_within stmts (Err f) e is on of made = absurd cc

  -- ---- its keys

  image_key : (i : Image) → IsImageWithin i → IsImageOf db i → IsKeyOf db.resource i.key
  image_key i is of = record { fits = is.key.fits; of = of.resource; short = is.key.short }

  read_key_of : (r : ReadRow) → IsReadWithin r → IsReadOf db r → IsKeyOf db.resource r.key
  read_key_of r is of = record { fits = is.key.fits; of = of.resource; short = is.key.short }

  each_touched : (is : List Image) → AllByRecursion IsImageWithin is → AllByRecursion (IsImageOf db) is → AreKeysOf db.resource (image_keys is)
  each_touched [] all of = tt
  each_touched (i ∷ is) all of = (image_key i all.0 of.0, each_touched is all.1 of.1)

  each_read_key : (rs : List ReadRow) → AllByRecursion IsReadWithin rs → AllByRecursion (IsReadOf db) rs → AreKeysOf db.resource (read_keys rs)
  each_read_key [] all of = tt
  each_read_key (r ∷ rs) all of = (read_key_of r all.0 of.0, each_read_key rs all.1 of.1)

  effect_keys : (r : Result Call (ℕ × StmtError)) (e : Effect) → ((call : Call) → r ≡ Ok call → IsCallWithin call) → IsEffectOn db e → to_effect db r ≡ Ok e → HasKeysOf db.resource e
  effect_keys (Ok call) e is on made =
      let same : effect_of db call ≡ e = cc in
      let h = is call refl in
      record {
        touched = each_touched e.images (subst (λ (x : Effect). AllByRecursion IsImageWithin x.images) same (all_mapped IsChangeWithin IsImageWithin (image_of db.rows) image_within call.changes h.changed))
            (recursion_from_All (IsImageOf db) e.images on.images);
        read = each_read_key e.reads (subst (λ (x : Effect). AllByRecursion IsReadWithin x.reads) same (all_mapped IsEntryWithin IsReadWithin read_of read_within call.reads h.read))
            (recursion_from_All (IsReadOf db) e.reads on.reads);
      }
  effect_keys (Err f) e is on made = absurd cc

pub effects_have_places : EffectsHavePlaces
unfolding effect
effects_have_places db stmts e w all is =
    effect_within db w stmts (steps db 0 (Ok nothing) stmts) e (λ call made. steps_within db w stmts 0 (Ok nothing) call all (nothing_within db w) made)
    (effects_fit db stmts e w.rows is) (effects_of_tables db stmts e is) is

pub effects_have_keys : EffectsHaveKeys
unfolding effect
effects_have_keys db stmts e w all is =
    effect_keys db w (steps db 0 (Ok nothing) stmts) e (λ call made. steps_within db w stmts 0 (Ok nothing) call all (nothing_within db w) made) (effects_fit db stmts e w.rows is) is
