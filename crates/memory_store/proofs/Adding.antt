-- What adding a record to a store comes to, by its answer.
use Rattle.std.proofs.Common.{◌≡◌, ◌⊎◌, ◌↔◌, inl, ℕ, ◌+◌, ◌<◌, ◌^◌, true, false, Some, Result, Ok, Err, List, length, refl, sym, ◌∙◌, ap, subst}
use Rattle.std.specs.Prelude.{IsTrue}
use Rattle.disk_model.specs.Disk.{DiskState, IsLawful}
use Rattle.seata_types.specs.declared.errors.Full.{Full}
use Rattle.seata_types.specs.declared.errors.StoreError.{StoreError}
use Rattle.seata_types.specs.declared.errors.StoreError.TheVariants as store_error
use Rattle.journal_checkpoint.specs.declared.types.Found.{Found}
use Rattle.journal_checkpoint.specs.Extents.{longer}
use Rattle.journal_checkpoint.specs.Images.{PairStandsFor, LeavesPairs, Either, with_record}
use Rattle.journal_checkpoint.specs.Keeping.{KeepsPair, active_disk, disks, twin_extent}
use Rattle.journal_checkpoint.proofs.Kept.{kept_pairs}
use Rattle.memory_store.specs.declared.store.Store.{Store}
use Rattle.memory_store.specs.Meanings.{Meaning}
use Rattle.memory_store.specs.Keeping.{machine_of, memory_of, twin_of, found_of, is_down, Keeps, Takes, IsAtEnd, IsFullFor, HasRoomFor}
use Rattle.memory_store.specs.Adding.{Adds}
use Rattle.memory_store.proofs.TwinFacts.{pairs_weaker}
use Rattle.memory_store.proofs.Replaying.{held_more, may_follow_now, known_is}

module _ {M K D I : Type 0} (state : D → DiskState) (lawful : (d : D) → IsLawful (state d)) (m : Meaning K I) (item : I) (body : List ℕ) (old : Store M K D) (up : is_down old ≡ false) where
  -- a crash leaves what was there, where no disk was called
  same_pairs : (kept : Found) → KeepsPair state kept (twin_of old) → LeavesPairs (disks state (twin_of old)) (disks state (twin_of old)) (PairStandsFor kept)
  same_pairs kept keeps = kept_pairs state lawful kept (twin_of old) keeps

  stays_up : {A : Type 0} → (A → ⊥) → IsTrue (is_down old) ↔ A
  stays_up never = (λ down. absurd (cc), λ is. absurd (never is))

  -- where the record doesn't fit
  pub is_full : (full : Full) → IsFullFor state (length body) old full ⊎ IsAtEnd m old → ((kept : Found) → Keeps state m kept old → IsFullFor state (length body) old full)
      → Adds state m item body (Err (store_error.Full full)) old old
  is_full full why exact = record {
    keeps = tt;
    memory = refl;
    any_moment = λ kept keeps. pairs_weaker (same_pairs kept keeps) (λ a b is. inl is);
    not_begun = λ kept keeps calls left few. same_pairs kept keeps;
    took = tt;
    extent = tt;
    failed = λ is. absurd (cc);
    full = λ other is. subst (λ (f : Full). IsFullFor state (length body) old f ⊎ IsAtEnd m old) (same_full other is) why;
    exact = λ kept other keeps is. subst (λ (f : Full). IsFullFor state (length body) old f) (same_full other is) (exact kept keeps);
    room = tt;
    down = stays_up (λ is. cc);
    machine = refl;
    found = refl;
  }
    where
      answer : Full → Result (Unit {0}) StoreError
      answer f = Err (store_error.Full f)

      same_full : (other : Full) → answer full ≡ answer other → full ≡ other
      same_full other is = cc

  -- where there is no memory for what it does
  pub no_memory : (known : K) → known ≡ memory_of old
      → Adds state m item body (Err store_error.NoMemory) old (record { machine = old.machine; memory = known; twin = old.twin; found = old.found })
  no_memory known same = record {
    keeps = tt;
    memory = ap (λ (k : K). record { machine = old.machine; memory = k; twin = old.twin; found = old.found }) same;
    any_moment = λ kept keeps. pairs_weaker (same_pairs kept keeps) (λ a b is. inl is);
    not_begun = λ kept keeps calls left few. same_pairs kept keeps;
    took = tt;
    extent = tt;
    failed = λ is. absurd (cc);
    full = λ full is. absurd (cc);
    exact = λ kept full keeps is. absurd (cc);
    room = tt;
    down = stays_up (λ is. cc);
    machine = refl;
    found = refl;
  }

  -- where the disks have it, which were called by `append`
  pub is_added : (new : Store M K D) → m.record_of body ≡ Some item → m.may_come (memory_of old) item ≡ true → m.acts (memory_of old) + 1 < 2 ^ 32 → HasRoomFor state (length body) old
      → memory_of new ≡ m.after item (memory_of old) → ((kept : Found) → KeepsPair state kept (twin_of old) → KeepsPair state (with_record kept body) (twin_of new))
      → ((kept : Found) → KeepsPair state kept (twin_of old) → LeavesPairs (disks state (twin_of old)) (disks state (twin_of new)) (Either kept (with_record kept body)))
      → ((kept : Found) → KeepsPair state kept (twin_of old) → (calls : ℕ) → (state (active_disk (twin_of old))).counts.left ≡ Some calls → calls < 2 →
      LeavesPairs (disks state (twin_of old)) (disks state (twin_of new)) (PairStandsFor kept))
      → Takes state (twin_of old) (twin_of new) → twin_extent (twin_of new) ≡ longer (length body) (twin_extent (twin_of old)) → is_down new ≡ false → machine_of new ≡ machine_of old → found_of new ≡ found_of old
      → Adds state m item body (Ok tt) old new
  is_added new is may counted room knows pair any_moment not_begun took extent down machine found = record {
    keeps = λ kept keeps. record {
      pair = pair kept keeps.pair;
      held = held_more m (memory_of old) body item is (may_follow_now m (memory_of old) item counted may) kept keeps.held ∙ ap (λ (k : K). known_is k) (sym knows);
    };
    memory = knows;
    any_moment = any_moment;
    not_begun = not_begun;
    took = took;
    extent = extent;
    failed = λ is. absurd (cc);
    full = λ full is. absurd (cc);
    exact = λ kept full keeps is. absurd (cc);
    room = room;
    down = (λ is. absurd (cc), λ is. absurd (cc));
    machine = machine;
    found = found;
  }
