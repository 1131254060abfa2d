-- A resource that was ready is ready after its answer.
use Rattle.std.proofs.Common.{◌≡◌, ◌∙◌, ◌⊎◌, ⊎_elim, false, true, Result, Ok, Err, refl, sym, ap, subst, true≢false}
use Rattle.std.specs.List.{AllByRecursion}
use Rattle.disk_model.specs.Disk.{DiskState}
use Rattle.seata_types.specs.declared.errors.StoreError.{StoreError}
use Rattle.seata_types.specs.declared.errors.StoreError.TheVariants as store_error
use Rattle.seata_types.specs.declared.limits.TheConstants.{RESOURCES}
use Rattle.frame_codec.specs.Limits.{IsCounted}
use Rattle.local_tables.specs.declared.schemas.Schema.{Schema}
use Rattle.durable_records.specs.declared.resources.ResourceRecord.{ResourceRecord}
use Rattle.durable_records.specs.declared.resources.ResourceRecord.TheVariants as log
use Rattle.resource_memory.specs.Changes.{after, may_come}
use Rattle.resource_memory.specs.Known.{Known}
use Rattle.resource_memory.proofs.Room.{stays}
use Rattle.resource_store.specs.declared.store.Store.{Store}
use Rattle.resource_store.specs.Answers.{outcome}
use Rattle.resource_store.specs.Keeping.{Changes, IsTaken, is_down, known}
use Rattle.resource_store.specs.Meaning.{Setting}
use Rattle.record_places.specs.Within.{IsTableWithin}
use Rattle.resource_rules.specs.declared.setups.Setup.{Setup as TheSetup}
use Rattle.resource_core.specs.Laws.{StaysReady}
use Rattle.resource_core.specs.Ready.{HasActionWithin, HasStmtsWithin, IsKnownWithin}
use Rattle.resource_core.specs.Stepping.{made_as}
use Rattle.resource_rules.proofs.TicketLists.{tickets_alike}

-- what is known is of the same tables
pub record IsAlike (k other : Known) : Type 0 where
  pub resource : k.tables.resource ≡ other.tables.resource
  pub schema : k.tables.schema ≡ other.tables.schema

alike : (k : Known) (r : ResourceRecord) → IsAlike k (after r k)
alike k (log.Boot number) = record { resource = refl; schema = refl }
alike k (log.Committed xid branch call images reads) = record { resource = refl; schema = refl }
alike k (log.Undone xid branch) = record { resource = refl; schema = refl }
alike k (log.Marked xid branch) = record { resource = refl; schema = refl }
alike k (log.Cleared xid branch) = record { resource = refl; schema = refl }
alike k (log.Tried xid branch call images) = record { resource = refl; schema = refl }
alike k (log.Confirmed xid branch images) = record { resource = refl; schema = refl }
alike k (log.Cancelled xid branch images) = record { resource = refl; schema = refl }
alike k (log.Suspended xid branch) = record { resource = refl; schema = refl }
alike k (log.LocalCommitted number images) = record { resource = refl; schema = refl }
alike k (log.Outside number images) = record { resource = refl; schema = refl }

-- what is known after an answer has places, and is of the same tables
pub record IsKnownAfter (k other : Known) : Type 0 where
  pub within : IsKnownWithin other
  pub same : IsAlike k other

same_known : (k other : Known) → other ≡ k → IsKnownWithin k → IsKnownAfter k other
same_known k other e is = subst (IsKnownAfter k) (sym e) (record { within = is; same = record { resource = refl; schema = refl } })

one_more : (k other : Known) (r : ResourceRecord) → may_come k r ≡ true → (IsKnownWithin k → IsKnownWithin (after r k)) → other ≡ after r k → IsKnownWithin k → IsKnownAfter k other
one_more k other r may next e is = subst (IsKnownAfter k) (sym e) (record { within = next is; same = alike k r })

module _ {D : Type 0} (state : D → DiskState) (old new : Store D) (is : IsKnownWithin (known old)) (up : is_down new ≡ false) where
  changed : (r : ResourceRecord) (result : Result (Unit {0}) StoreError) → IsTaken r old → Changes state r result old new → IsKnownAfter (known old) (known new)
  changed r (Ok done) taken changes =
      one_more (known old) (known new) r taken.allowed (λ k.
      let next = stays (known old) r k.kept taken.allowed in
      let same = alike (known old) r in
      record {
        resource = subst (IsCounted RESOURCES) same.resource k.resource;
        schema = subst (λ (s : Schema). AllByRecursion IsTableWithin s.tables) same.schema k.schema;
        kept = next.0;
        parts = next.1 k.parts taken.fits;
      }) changes.knows is
  changed r (Err store_error.Failed) taken changes = absurd (true≢false (sym changes.down ∙ up))
  changed r (Err (store_error.Full full)) taken changes = same_known (known old) (known new) (ap (λ (s : Store D). known s) changes.disks) is
  changed r (Err store_error.NoMemory) taken changes = same_known (known old) (known new) (ap (λ (s : Store D). known s) changes.disks) is

  pub known_after : (result : Result (Unit {0}) StoreError) → (new ≡ old) ⊎ ((r : ResourceRecord) × IsTaken r old × Changes state r result old new) → IsKnownAfter (known old) (known new)
  known_after result changes = ⊎_elim (λ same. same_known (known old) (known new) (ap (λ (s : Store D). known s) same) is) (λ made. changed made.0 result made.1 made.2) changes

pub stays_ready : {D : Type 0} (state : D → DiskState) → StaysReady state
stays_ready state old new given result a ready served up room =
    let k = known_after state old.store new.store ready.within.knows up (outcome (made_as result)) a.leaves.changes in
    record {
      up = up;
      numbered = ap (λ (s : TheSetup). s.number) a.same ∙ ready.numbered ∙ ap (λ (s : Setting). s.resource) (sym a.leaves.setting);
      within = record {
        room = room;
        counted = subst (λ (s : TheSetup). IsCounted RESOURCES s.number) (sym a.same) ready.within.counted;
        knows = k.within;
        tickets = tickets_alike (known old.store).tables (known new.store).tables k.same.resource k.same.schema new.txns.opens (a.within ready served);
        actions = subst (λ (s : TheSetup). AllByRecursion HasActionWithin s.actions) (sym a.same) ready.within.actions;
        locals = subst (λ (s : TheSetup). AllByRecursion HasStmtsWithin s.locals) (sym a.same) ready.within.locals;
      };
    }
