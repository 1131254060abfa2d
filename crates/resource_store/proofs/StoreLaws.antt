-- What the calls of a store say of lists of records.
use Rattle.std.proofs.Common.{◌≡◌, ◌≤◌, ◌+◌, ◌<◌, ◌^◌, ℕ, true, false, List, Result, Err, refl, sym, ap, subst, ◌∙◌, arith}
use Rattle.disk_model.specs.Disk.{DiskState}
use Rattle.seata_types.specs.declared.errors.StoreError.{StoreError}
use Rattle.seata_types.specs.declared.errors.StoreError.TheVariants as store_error
use Rattle.memory_store.specs.Adding as body
use Rattle.memory_store.proofs.ListKeeping as lists
use Rattle.durable_records.specs.declared.resources.ResourceRecord.{ResourceRecord}
use Rattle.resource_log.specs.Records.{FitsRecord, record_of, record_bytes}
use Rattle.resource_memory.specs.Changes.{may_come}
use Rattle.resource_memory.specs.Known.{Known}
use Rattle.resource_store.specs.declared.store.Store.{Store}
use Rattle.resource_store.specs.Meaning.{meaning_of}
use Rattle.resource_store.specs.Standing.{lists_of}
use Rattle.resource_store.specs.Keeping.{store_of, setting_of, known, is_down, KeepsRecords, Changes}
use Rattle.resource_store.proofs.ListLaws.{goes_behind, kept_of, lists_lawful, written_back}

-- no disk has room for as many boots as can't be counted
pub counts_boots : {D : Type 0} (state : D → DiskState) (s : Store D) (rs : List ResourceRecord) → KeepsRecords state (setting_of s) rs s → (known s).boots + 1 < 2 ^ 32
counts_boots state s rs k =
    let t = setting_of s in
    let counted : (known s).boots ≤ (known s).acts = subst (λ (x : Known). x.boots ≤ x.acts) (sym k.knows) (kept_of t rs k.list.made).counted in
    omega (arith, counted, lists.counts_more (lists_of t) (lists_lawful t) state rs s.kept k)

same_store : {D : Type 0} (old new : Store D) → new.kept ≡ old.kept → new ≡ old
same_store old new same = λ i. record { kept = same i }

-- what adding a record answers
pub changes : {D : Type 0} (state : D → DiskState) (old new : Store D) (r : ResourceRecord) (bytes : List ℕ) → FitsRecord r → bytes ≡ record_bytes r → may_come (known old) r ≡ true
    → (result : Result (Unit {0}) StoreError) → body.Adds state (meaning_of (setting_of old)) r bytes result old.kept new.kept → Changes state r result old new
changes state old new r bytes fits is may result a =
    let t = setting_of old in
    lists.changes (lists_of t) (lists_lawful t) state store_of old new (same_store old new) r bytes is (ap record_of is ∙ written_back r fits) may (goes_behind t r fits) result a

-- nothing changed, since memory was refused
pub changes_nothing : {D : Type 0} (state : D → DiskState) (s : Store D) (r : ResourceRecord) → is_down s ≡ false → Changes state r (Err store_error.NoMemory) s s
changes_nothing state s r up = record { makes = λ rs k. tt; disks = refl; knows = tt; lost = λ failed. absurd cc; down = up; setting = refl; found = refl }
