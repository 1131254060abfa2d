-- What calls on a resource leave of its store, whatever that keeps.
use Rattle.std.proofs.Common.{◌≡◌, ◌∙◌, false, Result, inl, inr, refl, sym}
use Rattle.disk_model.specs.Disk.{DiskState}
use Rattle.seata_types.specs.declared.errors.StoreError.{StoreError}
use Rattle.durable_records.specs.declared.resources.ResourceRecord.{ResourceRecord}
use Rattle.resource_store.specs.declared.store.Store.{Store}
use Rattle.resource_store.specs.Keeping.{is_down, has_failed, Changes, IsTaken}
use Rattle.resource_store.specs.Answers.{Leaves, outcome}

module _ {A D : Type 0} (state : D → DiskState) where
  -- all stays
  pub leaves_all : (s : Store D) (result : Result A StoreError) → is_down s ≡ false → has_failed (outcome result) ≡ false → Leaves state result s s
  leaves_all s result up ok = record { down = up ∙ sym ok; setting = refl; changes = inl refl }

  -- a record was made, or failed to be
  pub leaves_made : (r : ResourceRecord) (result : Result A StoreError) (old new : Store D) → IsTaken r old → Changes state r (outcome result) old new → Leaves state result old new
  leaves_made r result old new taken changes = record { down = changes.down; setting = changes.setting; changes = inr (r, taken, changes) }
