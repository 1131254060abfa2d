-- What putting a snapshot in place of the records comes to.
use Rattle.std.proofs.Common.{◌≡◌, ◌⊎◌, ◌↔◌, ⊎_elim, inl, inr, ◌*◌, ◌<◌, ℕ, Bool, true, false, Result, Ok, Err, List, length, refl, sym, ◌∙◌, ap, subst, arith}
use Rattle.disk_model.specs.Disk.{DiskState, IsLawful}
use Rattle.disk_model.specs.declared.errors.Failed.{Failed}
use Rattle.seata_types.specs.declared.errors.OpenError.TheVariants as open_error
use Rattle.journal_checkpoint.specs.declared.types.Found.{Found}
use Rattle.journal_checkpoint.specs.declared.twin.Twin.{Twin}
use Rattle.journal_checkpoint.specs.Images.{CannotCheckpoint, Either, LeavesPairs, PairStandsFor, only_snapshot}
use Rattle.journal_checkpoint.specs.Extents.{on_snapshot}
use Rattle.journal_checkpoint.specs.Keeping.{AreSized, twin_extent, IsExchanged, IsFallen, KeepsPair, active_disk, disks, first_disk, generation_of, is_down, other_disk, records_length, second_disk}
use Rattle.journal_checkpoint.proofs.Kept.{kept_pairs}
use Rattle.memory_store.specs.Meanings.{Meaning}
use Rattle.memory_store.specs.Settling.{CannotSettle, IsShort, IsWritable, RunsOn, Settles, StandsOrSettled}
use Rattle.memory_store.proofs.DiskFacts.{exchanged_first, exchanged_second, fallen_cause, fallen_first, fallen_second, runs_same}
use Rattle.memory_store.proofs.Checked.{sized_before, stays, turns}
use Rattle.memory_store.proofs.TwinFacts.{is_short, pairs_weaker}

-- ---- where none is put there

module _ {K I D : Type 0} (state : D → DiskState) (lawful : (d : D) → IsLawful (state d)) (m : Meaning K I) (known : K) (t : Twin D) where
  still_pairs : (found : Found) → KeepsPair state found t → LeavesPairs (disks state t) (disks state t) (StandsOrSettled m found known)
  still_pairs found keeps = pairs_weaker (kept_pairs state lawful found t keeps) (λ a b is. inl is)

  pub unsettled : is_down t ≡ false → IsShort state t ⊎ CannotSettle m state known t → Settles state m known (Ok tt) t t
  unsettled up short = record {
    keeps = λ found keeps. inl keeps;
    any_moment = still_pairs;
    short = λ found keeps. short;
    extent = λ size sized. stays state m known t size sized short;
    not_due = λ is. refl;
    error = tt;
    no_memory = λ is. absurd (cc);
    failed = λ is. absurd (cc);
    first = runs_same _;
    second = runs_same _;
    up = up;
  }

  pub without_memory : Settles state m known (Err open_error.NoMemory) t t
  without_memory = record {
    keeps = tt;
    any_moment = still_pairs;
    short = tt;
    extent = tt;
    not_due = λ is. refl;
    error = tt;
    no_memory = λ is. refl;
    failed = λ is. absurd (cc);
    first = runs_same _;
    second = runs_same _;
    up = tt;
  }

-- ---- where the disks are called for it

module _ {K I D : Type 0} (state : D → DiskState) (m : Meaning K I) (known : K) (writable : IsWritable m known) (bytes : List ℕ) (is : bytes ≡ m.snapshot_bytes known) (old new : Twin D)
    (due : (state (active_disk old)).size < 2 * records_length old)
    (any_moment : (found : Found) → KeepsPair state found old → LeavesPairs (disks state old) (disks state new) (Either found (only_snapshot found bytes))) where
  never_short : {A : Type 0} → IsShort state old → A
  never_short short = absurd (omega (arith, due, short))

  either : (found : Found) → KeepsPair state found old → LeavesPairs (disks state old) (disks state new) (StandsOrSettled m found known)
  either found keeps =
      pairs_weaker (any_moment found keeps) (λ a b one. ⊎_elim (λ before. inl before) (λ after. inr (writable, subst (λ (l : List ℕ). PairStandsFor (only_snapshot found l) a b) is after)) one)

  -- it was put there
  pub settled_now : ((found : Found) → KeepsPair state found old → KeepsPair state (only_snapshot found bytes) new) → IsExchanged state (length bytes) old new → (CannotCheckpoint (state (other_disk old)).size (length bytes) (generation_of old) → ⊥) → is_down new ≡ false → Settles state m known (Ok tt) old new
  settled_now done exchanged can up = record {
    keeps = λ found keeps. inr (writable, subst (λ (l : List ℕ). KeepsPair state (only_snapshot found l) new) is (done found keeps));
    any_moment = either;
    short = λ found keeps. inl (is_short state (only_snapshot found bytes) new (done found keeps) (omega arith) (omega arith));
    extent = λ size sized.
        let before = sized_before state old new (exchanged_first state old new (length bytes) exchanged) (exchanged_second state old new (length bytes) exchanged) size sized in
        exchanged.extent ∙ ap (λ (l : List ℕ). on_snapshot (length l) (twin_extent old)) is
        ∙ turns state m known old size before (subst (λ (l : List ℕ). CannotCheckpoint (state (other_disk old)).size (length l) (generation_of old) → ⊥) is can) writable due;
    not_due = never_short;
    error = tt;
    no_memory = λ no. absurd (cc);
    failed = λ no. absurd (cc);
    first = exchanged_first state old new (length bytes) exchanged;
    second = exchanged_second state old new (length bytes) exchanged;
    up = up;
  }

  -- it doesn't fit, or no generation is greater
  pub refused_now : CannotCheckpoint (state (other_disk old)).size (length bytes) (generation_of old) → new ≡ old → is_down new ≡ false → Settles state m known (Ok tt) old new
  refused_now refused same up = record {
    keeps = λ found keeps. inl (subst (λ (t : Twin D). KeepsPair state found t) (sym same) keeps);
    any_moment = either;
    short = λ found keeps. inr (subst (λ (t : Twin D). CannotSettle m state known t) (sym same) cannot);
    extent = λ size sized.
        let before = subst (λ (t : Twin D). AreSized state t size) same sized in
        ap twin_extent same ∙ stays state m known old size before (inr cannot);
    not_due = never_short;
    error = tt;
    no_memory = λ no. absurd (cc);
    failed = λ no. absurd (cc);
    first = subst (λ (t : Twin D). RunsOn (state (first_disk old)) (state (first_disk t))) (sym same) (runs_same (state (first_disk old)));
    second = subst (λ (t : Twin D). RunsOn (state (second_disk old)) (state (second_disk t))) (sym same) (runs_same (state (second_disk old)));
    up = up;
  }
    where
      cannot : CannotSettle m state known old
      cannot = inr (inr (subst (λ (l : List ℕ). CannotCheckpoint (state (other_disk old)).size (length l) (generation_of old)) is refused))

  abbrev answer : Bool → Result Bool Failed
  answer made = Ok made

  pub settled_or_refused : (made : Bool) → (answer made ≡ Ok true → (found : Found) → KeepsPair state found old → KeepsPair state (only_snapshot found bytes) new) → (answer made ≡ Ok true → IsExchanged state (length bytes) old new)
      → (answer made ≡ Ok false) ↔ CannotCheckpoint (state (other_disk old)).size (length bytes) (generation_of old) → (answer made ≡ Ok false → new ≡ old) → is_down new ≡ false
      → Settles state m known (Ok tt) old new
  settled_or_refused true done exchanged refused same up = settled_now (done refl) (exchanged refl) (λ cannot. let no : answer true ≡ Ok false = refused.1 cannot in cc) up
  settled_or_refused false done exchanged refused same up = refused_now (refused.0 refl) (same refl) up

  pub disks_failed : (e : Failed) → IsFallen state e old new → Settles state m known (Err open_error.Failed) old new
  disks_failed e fallen = record {
    keeps = tt;
    any_moment = either;
    short = tt;
    extent = tt;
    not_due = never_short;
    error = tt;
    no_memory = λ no. absurd (cc);
    failed = λ yes. fallen_cause state old new e fallen;
    first = fallen_first state old new e fallen;
    second = fallen_second state old new e fallen;
    up = tt;
  }
