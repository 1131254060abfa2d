-- What an opening that adds a boot leaves of two disks, and what a restart brings back.
use Rattle.std.proofs.Common.{◌≡◌, ◌⊎◌, inl, inr, ℕ, ◌+◌, ◌^◌, ◌<◌, Bool, true, false, eq-eqb, List, ◌∷◌, length, Option, Some, None, Result, Ok, Err, refl, sym, ap, subst, arith}
use Rattle.std.specs.Prelude.{IfErr}
use Rattle.disk_model.specs.Disk.{DiskState, IsLawful, SameKind, Passed, PassedAtMost, HasCause, present}
use Rattle.seata_types.specs.declared.errors.Full.{Full}
use Rattle.seata_types.specs.declared.errors.OpenError.{OpenError}
use Rattle.seata_types.specs.declared.errors.OpenError.TheVariants as open_error
use Rattle.seata_types.specs.declared.errors.StoreError.{StoreError}
use Rattle.seata_types.specs.declared.errors.StoreError.TheVariants as store_error
use Rattle.journal_checkpoint.specs.declared.twin.Twin.{Twin}
use Rattle.disk_journal.specs.Keeping.{IsFull}
use Rattle.journal_checkpoint.specs.Extents.{Extent}
use Rattle.journal_checkpoint.specs.Ends.{HasNoPlace}
use Rattle.journal_checkpoint.specs.Pairs.{chosen}
use Rattle.journal_checkpoint.specs.Keeping.{active_disk, other_disk, first_disk, second_disk, is_second, disks, needed_for, twin_extent}
use Rattle.journal_checkpoint.proofs.Ends.{no_place}
use Rattle.memory_store.specs.Meanings.{Meaning}
use Rattle.memory_store.specs.declared.store.Store.{Store as Below}
use Rattle.memory_store.specs.Openings.{OpensDisks, ReadsDisks}
use Rattle.memory_store.specs.Settling.{RunsOn, GoesOn}
use Rattle.memory_store.specs.Keeping.{Takes, Falls, IsFullFor, IsDamage, IsTold}
use Rattle.memory_store.proofs.DiskFacts.{runs_same, told_bytes, told_after}
use Rattle.memory_store.proofs.ListKeeping as lists
use Rattle.memory_store.proofs.Lists.{goes_on, not_damaged}
use Rattle.memory_store.proofs.TwinFacts.{pairs_now}
use Rattle.durable_records.specs.declared.resources.ResourceRecord.{ResourceRecord}
use Rattle.durable_records.specs.declared.resources.ResourceRecord.TheVariants as log
use Rattle.durable_records.specs.UndoRecords.{boots}
use Rattle.resource_log.specs.Records.{fields_bytes, record_bytes}
use Rattle.resource_memory.specs.Changes.{after}
use Rattle.resource_memory.specs.Known.{Known}
use Rattle.resource_store.specs.declared.store.Store.{Store}
use Rattle.resource_store.specs.Meaning.{Setting, meaning_of}
use Rattle.resource_store.specs.Standing.{StandsForRecords, lists_of}
use Rattle.resource_store.specs.Keeping.{setting_of, known, twin, is_down, IsTaken, KeepsRecords, WithOrWithout, AtOrBehind, LeavesEither, Makes, Moves, Changes, boot_record, BootsAs, IsNoDamage, GoesOnAs, GoesOnWithBoot, BringsBack, StandsAlways}
use Rattle.resource_store.specs.Openings.{opening_error, boot_length, IsBootFull, IsUndamaged, IsBootDamage}
use Rattle.resource_store.proofs.ListLaws.{lists_lawful}
use Rattle.resource_store.proofs.StoreLaws.{counts_boots}

-- ---- what the store below it says, of this resource

pub reads_of : {D : Type 0} (state : D → DiskState) (one two : D) (result : Result (Below Setting Known D) (OpenError × D × D)) (q t : Setting) → q ≡ t
    → ReadsDisks state (meaning_of q) (λ (k : Below Setting Known D). k) one two result → ReadsDisks state (meaning_of t) (λ (k : Below Setting Known D). k) one two result
reads_of {D} state one two result q t same = subst (λ (r : Setting). ReadsDisks state (meaning_of r) (λ (k : Below Setting Known D). k) one two result) same

pub opens_of : {D : Type 0} (state : D → DiskState) (one two : D) (result : Result (Below Setting Known D) (OpenError × D × D)) (q t : Setting) → q ≡ t
    → OpensDisks state (meaning_of q) (λ (k : Below Setting Known D). k) (GoesOn (meaning_of q)) one two result
    → OpensDisks state (meaning_of t) (λ (k : Below Setting Known D). k) (GoesOn (meaning_of t)) one two result
opens_of {D} state one two result q t same = subst (λ (r : Setting). OpensDisks state (meaning_of r) (λ (k : Below Setting Known D). k) (GoesOn (meaning_of r)) one two result) same

-- ---- a disk that took a record, or failed

passed_none : (n : ℕ) (before after : Option ℕ) → Passed n before after → before ≡ None → after ≡ None
passed_none n None None passed is = refl
passed_none n None (Some b) passed is = absurd passed
passed_none n (Some a) None passed is = refl
passed_none n (Some a) (Some b) passed is = absurd (cc)

stuck_none : (n : ℕ) (before after : Option ℕ) → PassedAtMost n before after → before ≡ None → after ≡ None
stuck_none n None None passed is = refl
stuck_none n None (Some b) passed is = absurd passed
stuck_none n (Some a) None passed is = refl
stuck_none n (Some a) (Some b) passed is = absurd (cc)

module _ {D : Type 0} (state : D → DiskState) where
  -- what a call did to its active disk alone
  record RunsActive (old new : Twin D) : Type 0 where
    pub active : RunsOn (state (active_disk old)) (state (active_disk new))
    pub other : other_disk new ≡ other_disk old
    pub second : is_second new ≡ is_second old

  takes_run : (old new : Twin D) → Takes state old new → RunsActive old new
  takes_run old new t = record {
    active = record { rest = t.rest; faults = t.counts.faults; own = t.counts.own; unarmed = passed_none 4 (state (active_disk old)).counts.left (state (active_disk new)).counts.left t.counts.passed };
    other = t.other;
    second = t.second;
  }

  falls_run : (old new : Twin D) → Falls state old new → RunsActive old new
  falls_run old new f = record {
    active = record { rest = f.rest; faults = f.counts.faults; own = f.counts.own; unarmed = stuck_none 3 (state (active_disk old)).counts.left (state (active_disk new)).counts.left f.counts.stuck };
    other = f.other;
    second = f.second;
  }

  first_by : (s t : Bool) (x y p q : D) → t ≡ s → q ≡ y → RunsOn (state x) (state p) → RunsOn (state (chosen s x y)) (state (chosen t p q))
  first_by true true x y p q same other runs = subst (λ d. RunsOn (state y) (state d)) (sym other) (runs_same (state y))
  first_by false false x y p q same other runs = runs
  first_by true false x y p q same other runs = absurd (cc)
  first_by false true x y p q same other runs = absurd (cc)

  second_by : (s t : Bool) (x y p q : D) → t ≡ s → q ≡ y → RunsOn (state x) (state p) → RunsOn (state (chosen s y x)) (state (chosen t q p))
  second_by true true x y p q same other runs = runs
  second_by false false x y p q same other runs = subst (λ d. RunsOn (state y) (state d)) (sym other) (runs_same (state y))
  second_by true false x y p q same other runs = absurd (cc)
  second_by false true x y p q same other runs = absurd (cc)

  run_first : (old new : Twin D) → RunsActive old new → RunsOn (state (first_disk old)) (state (first_disk new))
  run_first old new r = first_by old.second new.second (active_disk old) (other_disk old) (active_disk new) (other_disk new) r.second r.other r.active

  run_second : (old new : Twin D) → RunsActive old new → RunsOn (state (second_disk old)) (state (second_disk new))
  run_second old new r = second_by old.second new.second (active_disk old) (other_disk old) (active_disk new) (other_disk new) r.second r.other r.active

  pub moved_first : (result : Result (Unit {0}) StoreError) (old new : Store D) → Moves state result old new → RunsOn (state (first_disk (twin old))) (state (first_disk (twin new)))
  moved_first (Ok done) old new m = run_first (twin old) (twin new) (takes_run (twin old) (twin new) m)
  moved_first (Err store_error.Failed) old new m = run_first (twin old) (twin new) (falls_run (twin old) (twin new) m)
  moved_first (Err (store_error.Full full)) old new m = subst (λ s. RunsOn (state (first_disk (twin old))) (state (first_disk (twin s)))) (sym m) (runs_same (state (first_disk (twin old))))
  moved_first (Err store_error.NoMemory) old new m = subst (λ s. RunsOn (state (first_disk (twin old))) (state (first_disk (twin s)))) (sym m) (runs_same (state (first_disk (twin old))))

  pub moved_second : (result : Result (Unit {0}) StoreError) (old new : Store D) → Moves state result old new → RunsOn (state (second_disk (twin old))) (state (second_disk (twin new)))
  moved_second (Ok done) old new m = run_second (twin old) (twin new) (takes_run (twin old) (twin new) m)
  moved_second (Err store_error.Failed) old new m = run_second (twin old) (twin new) (falls_run (twin old) (twin new) m)
  moved_second (Err (store_error.Full full)) old new m = subst (λ s. RunsOn (state (second_disk (twin old))) (state (second_disk (twin s)))) (sym m) (runs_same (state (second_disk (twin old))))
  moved_second (Err store_error.NoMemory) old new m = subst (λ s. RunsOn (state (second_disk (twin old))) (state (second_disk (twin s)))) (sym m) (runs_same (state (second_disk (twin old))))

  cause_by : (s t : Bool) (x y p q : D) → t ≡ s → HasCause (state x).counts (state p).counts
      → HasCause (state (chosen s x y)).counts (state (chosen t p q)).counts ⊎ HasCause (state (chosen s y x)).counts (state (chosen t q p)).counts
  cause_by true true x y p q same cause = inr cause
  cause_by false false x y p q same cause = inl cause
  cause_by true false x y p q same cause = absurd (cc)
  cause_by false true x y p q same cause = absurd (cc)

  -- one of the disks fails, where a call fails for them
  pub failed_disk : (error : StoreError) (old new : Store D) → opening_error error ≡ open_error.Failed → Moves state (Err error) old new
      → HasCause (state (first_disk (twin old))).counts (state (first_disk (twin new))).counts ⊎ HasCause (state (second_disk (twin old))).counts (state (second_disk (twin new))).counts
  failed_disk store_error.Failed old new is m = cause_by (twin old).second (twin new).second (active_disk (twin old)) (other_disk (twin old)) (active_disk (twin new)) (other_disk (twin new)) m.second m.counts.cause
  failed_disk (store_error.Full full) old new is m = absurd (cc)
  failed_disk store_error.NoMemory old new is m = absurd (cc)

  -- ---- a boot

  size_by : (n : ℕ) (s : Bool) (x y : D) → n ≡ (state x).size → (n ≡ (state (chosen s x y)).size) ⊎ (n ≡ (state (chosen s y x)).size)
  size_by n true x y same = inr same
  size_by n false x y same = inl same

  -- the record of a boot has as many bytes for each number
  boot_bytes : (number : ℕ) → length (record_bytes (log.Boot number)) ≡ boot_length
  unfolding fields_bytes
  boot_bytes number = refl

  module _ (law : (d : D) → IsLawful (state d)) (t : Setting) (rs : List ResourceRecord) (number : ℕ) where
    boot_full : (full : Full) (s : Store D) → KeepsRecords state t rs s → IsFullFor state (length (record_bytes (log.Boot number))) s.kept full
        → IsBootFull (state (first_disk (twin s))) (state (second_disk (twin s))) full
    boot_full full s k is =
        let bytes = length (record_bytes (log.Boot number)) in
        let size : IsFull (needed_for (twin s) bytes) full.size full = subst (λ n. IsFull (needed_for (twin s) bytes) n full) (sym is.size_is) is in
        record {
          no_place = subst (λ n. HasNoPlace (record { first = state (first_disk (twin s)); second = state (second_disk (twin s)) }) full.size n full) (boot_bytes number)
              (no_place state law k.found (twin s) k.kept.pair full.size bytes full size);
          size = size_by full.size (twin s).second (active_disk (twin s)) (other_disk (twin s)) is.size_is;
        }

    -- what a boot fails for
    pub boot_undamaged : (error : StoreError) (old new : Store D) → KeepsRecords state t rs old → Makes state (log.Boot number) rs (Err error) old new → Moves state (Err error) old new
        → IsUndamaged (state (first_disk (twin new))) (state (second_disk (twin new))) (opening_error error)
    boot_undamaged store_error.Failed old new k makes moves = tt
    boot_undamaged (store_error.Full full) old new k makes moves =
        subst (λ s. IsBootFull (state (first_disk (twin s))) (state (second_disk (twin s))) full) (sym moves) (boot_full full old k makes)
    boot_undamaged store_error.NoMemory old new k makes moves = tt

  -- boots that can't be counted, which no store that keeps records has
  pub boots_uncounted : (s : Store D) (full : Full) → is_down s ≡ false → ((known s).boots + 1 < 2 ^ 32 → ⊥) → Changes state (boot_record (known s)) (Err (store_error.Full full)) s s
  boots_uncounted s full up never = record {
    makes = λ rs k. absurd (never (counts_boots state s rs k));
    disks = refl;
    knows = tt;
    lost = λ failed. absurd cc;
    down = up;
    setting = refl;
    found = refl;
  }

  -- what was read, and a boot that is added to it
  module _ (t : Setting) (a b : List ℕ) (old : Store D) (same : setting_of old ≡ t)
      (keeps : (rs : List ResourceRecord) → StandsForRecords t rs a b → KeepsRecords state t rs old) where
    kept_now : (rs : List ResourceRecord) → StandsForRecords t rs a b → KeepsRecords state (setting_of old) rs old
    kept_now rs stands = subst (λ z. KeepsRecords state z rs old) (sym same) (keeps rs stands)

    boot_is : (rs : List ResourceRecord) → StandsForRecords t rs a b → boot_record (known old) ≡ log.Boot (boots rs + 1)
    boot_is rs stands = ap (λ (k : Known). boot_record k) (keeps rs stands).knows

    pub boots_as : (new : Store D) → Changes state (boot_record (known old)) (Ok tt) old new → (rs : List ResourceRecord) → StandsForRecords t rs a b → BootsAs state t rs new
    boots_as new made rs stands =
        subst (λ r. KeepsRecords state t (r ∷ rs) new) (boot_is rs stands)
        (subst (λ z. KeepsRecords state z (boot_record (known old) ∷ rs) new) same (made.makes rs (kept_now rs stands)).keeps)

    pub boot_refused : ((d : D) → IsLawful (state d)) → (error : StoreError) (new : Store D) → Changes state (boot_record (known old)) (Err error) old new → (rs : List ResourceRecord) → StandsForRecords t rs a b
        → IsUndamaged (state (first_disk (twin new))) (state (second_disk (twin new))) (opening_error error)
    boot_refused law error new made rs stands = boot_undamaged law t rs ((known old).boots + 1) error old new (keeps rs stands) (made.makes rs (kept_now rs stands)) made.disks

    -- wherever their journal stands
    anywhere : (t : Setting) (r : ResourceRecord) (rs : List ResourceRecord) (e : Extent) (c d : List ℕ) → AtOrBehind t r rs e c d → WithOrWithout t r rs c d
    anywhere t r rs e c d (inl h) = inl h.0
    anywhere t r rs e c d (inr h) = inr h.0

    module _ (images : (c d : List ℕ) → (state (first_disk (twin old))).may_leave c → (state (second_disk (twin old))).may_leave d → GoesOnAs t a b c d) where
      either_boot : (new : Store D) (rs : List ResourceRecord) → StandsForRecords t rs a b
          → LeavesEither state (boot_record (known old)) rs old new
          → (c d : List ℕ) → (state (first_disk (twin new))).may_leave c → (state (second_disk (twin new))).may_leave d → WithOrWithout t (log.Boot (boots rs + 1)) rs c d
      either_boot new rs stands leaves c d one two =
          subst (λ r. WithOrWithout t r rs c d) (boot_is rs stands)
          (subst (λ z. WithOrWithout z (boot_record (known old)) rs c d) same (anywhere (setting_of old) (boot_record (known old)) rs (twin_extent (twin old)) c d (pairs_now state (disks state (twin old)) (twin new) leaves c d one two)))

      unchanged : (new : Store D) → new ≡ old → (c d : List ℕ) → (state (first_disk (twin new))).may_leave c → (state (second_disk (twin new))).may_leave d → GoesOnAs t a b c d
      unchanged new is c d one two = images c d (subst (λ s. (state (first_disk (twin s))).may_leave c) is one) (subst (λ s. (state (second_disk (twin s))).may_leave d) is two)

      -- a crash leaves the records, with the boot or without
      pub boot_images : (result : Result (Unit {0}) StoreError) (new : Store D) → Changes state (boot_record (known old)) result old new
          → (c d : List ℕ) → (state (first_disk (twin new))).may_leave c → (state (second_disk (twin new))).may_leave d → GoesOnWithBoot t a b c d
      boot_images (Ok done) new made c d one two rs stands = either_boot new rs stands (made.makes rs (kept_now rs stands)).any_moment c d one two
      boot_images (Err store_error.Failed) new made c d one two rs stands = either_boot new rs stands (made.makes rs (kept_now rs stands)).any_moment c d one two
      boot_images (Err (store_error.Full full)) new made c d one two rs stands = inl (unchanged new made.disks c d one two rs stands)
      boot_images (Err store_error.NoMemory) new made c d one two rs stands = inl (unchanged new made.disks c d one two rs stands)

-- the next boot is taken, where it is counted in four bytes
pub boot_taken : {D : Type 0} (s : Store D) (number : ℕ) → number ≡ (known s).boots + 1 → number < 2 ^ 32 → IsTaken (log.Boot number) s
unfolding fields_bytes
boot_taken s number next few =
    let n : length (record_bytes (log.Boot number)) ≡ 5 = refl in
    record { allowed = eq-eqb number ((known s).boots + 1) next; fits = few; small = omega (arith, n) }

-- what is known after a boot is of the same tables, and has places where it had
pub boot_sound : (t : Setting) (k : Known) → (meaning_of t).IsSound k → (meaning_of t).IsSound (after (boot_record k) k)
boot_sound t k before opens =
    let is = before opens in
    let counted = is.kept.counted in
    record {
      kept = record { counted = omega (arith, counted); rows = is.kept.rows; undos = is.kept.undos; fences = is.kept.fences; calls = is.kept.calls };
      fits = record { rows = is.fits.rows; undos = is.fits.undos; fences = is.fits.fences; calls = is.fits.calls };
      resource = is.resource;
      schema = is.schema;
    }

-- an error of a boot is no damage
pub boot_damage : {K I : Type 0} (m : Meaning K I) (a b : List ℕ) (error : StoreError) → IsBootDamage m a b (opening_error error)
boot_damage m a b store_error.Failed = tt
boot_damage m a b (store_error.Full full) = tt
boot_damage m a b store_error.NoMemory = tt

-- ---- openings without a boot

-- a damage of what was read is one with a boot, too
pub read_damage : {K I : Type 0} (m : Meaning K I) (a b : List ℕ) (error : OpenError) → IsDamage m a b error → IsBootDamage m a b error
read_damage m a b (open_error.Damaged second at) damage = damage
read_damage m a b (open_error.Full full) damage = tt
read_damage m a b open_error.Failed damage = tt
read_damage m a b open_error.NoMemory damage = tt

pub read_undamaged : (first second : DiskState) (error : OpenError) → IsNoDamage error → IsUndamaged first second error
read_undamaged first second (open_error.Damaged on at) none = none
read_undamaged first second (open_error.Full full) none = absurd none
read_undamaged first second open_error.Failed none = tt
read_undamaged first second open_error.NoMemory none = tt

-- ---- what is kept, and a restart

module _ {D : Type 0} (state : D → DiskState) (law : (d : D) → IsLawful (state d)) where
  -- each pair of images stands for the records that are kept
  pub stands_now : (t : Setting) (rs : List ResourceRecord) (s : Store D) → KeepsRecords state t rs s
      → (a b : List ℕ) → (state (first_disk (twin s))).may_leave a → (state (second_disk (twin s))).may_leave b → StandsForRecords t rs a b
  stands_now t rs s k = lists.stands_now (lists_of t) (lists_lawful t) state law rs s.kept k

  abbrev LeavesAs : (old new : Store D) → (List ℕ → List ℕ → List ℕ → List ℕ → Type 0) → Type 0
  LeavesAs old new P =
      (c d : List ℕ) → (state (first_disk (twin new))).may_leave c → (state (second_disk (twin new))).may_leave d
      → (a : List ℕ) × (b : List ℕ) × (state (first_disk (twin old))).may_leave a × (state (second_disk (twin old))).may_leave b × P a b c d

  module _ (old new : Store D) where
    abbrev t : Setting
    t = setting_of old

    pub restart_recovers : (r : Result (Unit {0}) OpenError)
        → IfErr r (λ e. (a b : List ℕ) → present (state (first_disk (twin new))) ≡ Some a → present (state (second_disk (twin new))) ≡ Some b → IsDamage (meaning_of t) a b e)
        → LeavesAs old new (GoesOn (meaning_of t))
        → SameKind (state (first_disk (twin old))) (state (first_disk (twin new))) → SameKind (state (second_disk (twin old))) (state (second_disk (twin new)))
        → IfErr r (λ e. IsTold (state (first_disk (twin old))) → IsTold (state (second_disk (twin old))) → StandsAlways state t (twin old) → IsNoDamage e)
    restart_recovers (Ok done) damaged images one two = tt
    restart_recovers (Err e) damaged images one two = λ told told_too always.
        let x = told_bytes (state (first_disk (twin new))) (told_after one told) in
        let y = told_bytes (state (second_disk (twin new))) (told_after two told_too) in
        let i = images x.0 y.0 ((law (first_disk (twin new))).present_may_stay x.0 x.1) ((law (second_disk (twin new))).present_may_stay y.0 y.1) in
        let stands = always i.0 i.1 i.2 i.3 in
        not_damaged (lists_of t) (lists_lawful t) x.0 y.0 e (damaged x.0 y.0 x.1 y.1) stands.0 (goes_on (lists_of t) (lists_lawful t) i.0 i.1 x.0 y.0 i.4 stands.0 stands.1)

  -- which records a restart brought back: where each pair of images from before stands for the records, or for these and the one
  -- that may be kept
  pub came_back : (pick : ℕ) (old new : Store D) (rs : List ResourceRecord) (kept : Option ResourceRecord) → BringsBack state pick old new
      → ((a b : List ℕ) → (state (first_disk (twin old))).may_leave a → (state (second_disk (twin old))).may_leave b
      → StandsForRecords (setting_of old) rs a b ⊎ ((r : ResourceRecord) × (kept ≡ Some r) × StandsForRecords (setting_of old) (r ∷ rs) a b))
      → KeepsRecords state (setting_of old) rs new ⊎ ((r : ResourceRecord) × (kept ≡ Some r) × KeepsRecords state (setting_of old) (r ∷ rs) new)
  came_back pick old new = lists.came_back state (lists_of (setting_of old)) pick old.kept new.kept
