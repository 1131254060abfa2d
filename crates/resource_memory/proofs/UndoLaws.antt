-- Undo records after one more record, and their images.
use Rattle.std.proofs.Common.{◌≡◌, ℕ, Bool, true, false, cond, List, [], ◌∷◌, Some, refl}
use Rattle.std.specs.List.{AllByRecursion, list_all}
use Rattle.std.proofs.lemmas.Bool.{and_parts, and_from}
use Rattle.seata_types.specs.declared.ids.Leg.{Leg}
use Rattle.seata_types.specs.declared.rows.Image.{Image}
use Rattle.seata_types.specs.declared.rows.ReadRow.{ReadRow}
use Rattle.local_tables.specs.declared.schemas.Schema.{Schema}
use Rattle.local_tables.specs.Fitting.{is_image, is_read}
use Rattle.durable_records.specs.ResourceOrder.{image_keys}
use Rattle.undo_log.specs.Entries.{Log, order, is_leg, entry_at, with_entry, without_entry}
use Rattle.undo_log.specs.declared.records.UndoEntry.{UndoEntry}
use Rattle.undo_log.specs.declared.records.UndoEntry.TheVariants as entry
use Rattle.resource_memory.specs.Changes.{rise, undo_images, undo_record}
use Rattle.resource_memory.specs.Keeping.{IsEntryOf, AreUndos}
use Rattle.resource_memory.proofs.Legs.{leg_total, leg_exact}
use Rattle.resource_memory.proofs.Maps.{rising_insert, rising_remove, all_insert, all_remove}

module _ (resource : ℕ) (schema : Schema) where
  abbrev Each : Log → Type 0
  Each log = AllByRecursion (λ e. IsEntryOf resource schema e.0 e.1) log

  pub undos_with : (log : Log) (leg : Leg) (e : UndoEntry) → AreUndos resource schema log → IsEntryOf resource schema leg e → AreUndos resource schema (with_entry log leg e)
  undos_with log leg e u new = record {
    in_order = rising_insert order leg_total leg_exact log leg e u.in_order;
    each = all_insert order leg_total leg_exact (λ f. IsEntryOf resource schema f.0 f.1) log leg e u.each new;
  }

  pub undos_without : (log : Log) (leg : Leg) → AreUndos resource schema log → AreUndos resource schema (without_entry log leg)
  undos_without log leg u = record {
    in_order = rising_remove order leg_total leg_exact log leg u.in_order;
    each = all_remove order leg_total leg_exact (λ f. IsEntryOf resource schema f.0 f.1) log leg u.each;
  }

  -- ---- the images of a branch's undo record

  pub record AreUndoImages (images : List Image) : Type 0 where
    pub of_tables : list_all (is_image resource schema) images ≡ true
    pub rising : rise (image_keys images) ≡ true

  none_are : AreUndoImages []
  none_are = record { of_tables = refl; rising = refl }

  entry_images : (leg : Leg) (e : UndoEntry) → IsEntryOf resource schema leg e → AreUndoImages (undo_images (Some e))
  entry_images leg (entry.Normal r) is = record { of_tables = (and_parts _ _ is.2).0; rising = is.1 }
  entry_images leg entry.Finished is = none_are

  pub images_at : (log : Log) (leg : Leg) → Each log → AreUndoImages (undo_images (entry_at log leg))
  images_at [] leg all = none_are
  images_at (e ∷ es) leg all = by (is_leg leg e.0) (images_at es leg all.1)
    where
      by : (b : Bool) → AreUndoImages (undo_images (entry_at es leg)) → AreUndoImages (undo_images (cond b (Some e.1) (entry_at es leg)))
      by true rest = entry_images e.0 e.1 all.0
      by false rest = rest

  -- the undo record of a local commit whose images and reads fit
  pub committed_entry : (leg : Leg) (call : ℕ) (images : List Image) (reads : List ReadRow) → list_all (is_image resource schema) images ≡ true → list_all (is_read resource schema) reads ≡ true → rise (image_keys images) ≡ true → IsEntryOf resource schema leg (undo_record leg call images reads)
  committed_entry leg call images reads p q r = (refl, r, and_from _ _ p q)
