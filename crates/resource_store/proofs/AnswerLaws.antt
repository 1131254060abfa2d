-- What calls on a resource answer, over the laws of its store: which records are taken, what is known at a branch by the
-- records, and each way to answer.
use Rattle.std.proofs.Common.{◌≡◌, ℕ, true, false, List, [], Option, Some, None, Ok, Err, refl, ap, ◌∙◌}
use Rattle.std.proofs.lemmas.Bool.{and_from}
use Rattle.disk_model.specs.Disk.{DiskState}
use Rattle.seata_types.specs.declared.errors.StoreError.TheVariants as store_error
use Rattle.seata_types.specs.declared.ids.Leg.{Leg}
use Rattle.seata_types.specs.declared.rows.Image.{Image}
use Rattle.seata_types.specs.declared.rows.ReadRow.{ReadRow}
use Rattle.durable_records.specs.declared.resources.ResourceRecord.{ResourceRecord}
use Rattle.durable_records.specs.declared.resources.ResourceRecord.TheVariants as log
use Rattle.durable_records.specs.Fences.{Runs, fence, on_try}
use Rattle.undo_log.specs.Entries.{entry_at}
use Rattle.tcc_fence.specs.Meanings.{fence_at}
use Rattle.tcc_fence.proofs.RecordLaws.{fences_stand}
use Rattle.resource_memory.specs.Changes.{has_no_entry, runs}
use Rattle.resource_memory.specs.Known.{Known}
use Rattle.resource_memory.specs.Lookups.{entry_now}
use Rattle.resource_memory.proofs.RecordLaws.{undo_now}
use Rattle.resource_store.specs.declared.store.Store.{Store}
use Rattle.resource_store.specs.Meaning.{Setting, opening_of}
use Rattle.resource_store.specs.Keeping.{known, is_down, KeepsRecords, IsTaken}
use Rattle.resource_store.specs.Answers.{Answer, only, Does, Gives, tables_now, TakesRows}
use Rattle.resource_store.proofs.StoreLaws.{changes_nothing}

-- ---- records that are taken, with images

module _ {D : Type 0} (s : Store D) (leg : Leg) (images : List Image) where
  pub committed_taken : (call : ℕ) (reads : List ReadRow) → has_no_entry (known s) leg ≡ true →
      TakesRows (known s).tables images reads (log.Committed leg.xid leg.branch call images reads) → IsTaken (log.Committed leg.xid leg.branch call images reads) s
  committed_taken call reads none t = record { allowed = and_from _ _ none t.fit; fits = t.fits; small = t.small }

  pub tried_taken : (call : ℕ) → on_try (fence_at (known s).fences leg) ≡ Runs →
      TakesRows (known s).tables images [] (log.Tried leg.xid leg.branch call images) → IsTaken (log.Tried leg.xid leg.branch call images) s
  tried_taken call answer t = record { allowed = and_from _ _ (ap runs answer) t.fit; fits = t.fits; small = t.small }

module _ {D : Type 0} (s : Store D) (number : ℕ) (images : List Image) where
  pub local_taken : TakesRows (known s).tables images [] (log.LocalCommitted number images) → IsTaken (log.LocalCommitted number images) s
  local_taken t = record { allowed = t.fit; fits = t.fits; small = t.small }

  pub outside_taken : TakesRows (known s).tables images [] (log.Outside number images) → IsTaken (log.Outside number images) s
  outside_taken t = record { allowed = t.fit; fits = t.fits; small = t.small }

-- ---- what is known, by the records

module _ {D : Type 0} (state : D → DiskState) (t : Setting) (rs : List ResourceRecord) (s : Store D) (k : KeepsRecords state t rs s) where
  pub entry_of : (leg : Leg) → entry_at (known s).undo_log leg ≡ entry_now rs leg.xid.0 leg.branch.0
  entry_of leg = ap (λ (x : Known). entry_at x.undo_log leg) k.knows ∙ undo_now (opening_of t) rs k.list.made.allowed leg

  pub fence_of : (leg : Leg) → fence_at (known s).fences leg ≡ fence rs leg.xid.0 leg.branch.0
  fence_of leg = ap (λ (x : Known). fence_at x.fences leg) k.knows ∙ fences_stand rs leg

  pub tables_of : (known s).tables ≡ tables_now t rs
  tables_of = ap (λ (x : Known). x.tables) k.knows

-- ---- ways to answer

-- memory was wanting, and nothing changed
does_nothing : {D : Type 0} (A : Type 0) (state : D → DiskState) (s : Store D) (made : Option ResourceRecord) → is_down s ≡ false → Does {A = A} state made (Err store_error.NoMemory) s s
does_nothing A state s None up = (refl, refl)
does_nothing A state s (Some r) up = changes_nothing state s r up

module _ {A D : Type 0} (state : D → DiskState) where
  -- where memory is wanting nothing changes
  pub gives_nothing : (s : Store D) (answer : Answer A) → is_down s ≡ false → Gives state answer (Err store_error.NoMemory) s s
  gives_nothing s answer up = record { told = tt; does = does_nothing A state s answer.made up }

  -- no record is made
  pub gives_only : (s : Store D) (a : A) → Gives state (only a) (Ok a) s s
  gives_only s a = record { told = refl; does = refl }
