-- What opening two disks comes to, and coming back on them.
use Rattle.std.proofs.Common.{◌≡◌, ◌⊎◌, ⊎_elim, inl, inr, ◌*◌, ◌≤◌, ℕ, true, false, Some, Result, Ok, Err, IfErr, List, refl, sym, subst, arith}
use Rattle.std.specs.Prelude.{is_err, is_ok}
use Rattle.disk_model.specs.Disk.{DiskState, IsLawful, present}
use Rattle.disk_journal.specs.Reading.{row_length}
use Rattle.seata_types.specs.declared.errors.OpenError.{OpenError}
use Rattle.seata_types.specs.declared.errors.OpenError.TheVariants as open_error
use Rattle.journal_checkpoint.specs.declared.types.Found.{Found}
use Rattle.journal_checkpoint.specs.declared.twin.Twin.{Twin}
use Rattle.journal_checkpoint.specs.Images.{FailsItself, PairStandsFor, RestartsPair, TellAlike}
use Rattle.journal_checkpoint.specs.Keeping.{KeepsPair, first_disk, second_disk, is_down as twin_is_down}
use Rattle.memory_store.specs.Meanings.{Meaning}
use Rattle.memory_store.specs.Settling.{GoesOn}
use Rattle.memory_store.specs.declared.store.Store.{Store}
use Rattle.memory_store.specs.Keeping.{ComesUp, IsDamage, IsNotFull, StaysWhereShort, twin_of}
use Rattle.memory_store.specs.Openings.{ComesBack, OpensDisks, ReadsDisks, TakesOver, twin_in}
use Rattle.memory_store.proofs.DiskFacts.{comes_up, fails_itself, stays_down, told_bytes, told_then}
use Rattle.memory_store.proofs.TwinFacts.{is_short}

-- A restart of both disks was followed by reading them and taking over what they hold.
module _ {S D K I : Type 0} (state : D → DiskState) (lawful : (d : D) → IsLawful (state d)) (m : Meaning K I) (pick : ℕ) (twin : S → Twin D) (before now : S) (mid after : Twin D)
    (restarts : RestartsPair true pick (state (first_disk (twin before))) (state (second_disk (twin before))) (state (first_disk mid)) (state (second_disk mid)))
    (found : Found) (stands : (a b : List ℕ) → present (state (first_disk mid)) ≡ Some a → present (state (second_disk mid)) ≡ Some b → PairStandsFor found a b)
    (keeps : TellAlike (state (first_disk mid)) (state (second_disk mid)) → KeepsPair state found mid) (answer : Result (Unit {0}) OpenError) (over : TakesOver state m found mid after answer)
    (first : first_disk (twin now) ≡ first_disk after) (second : second_disk (twin now) ≡ second_disk after) where
  left_one : (p : List ℕ) → (state (first_disk (twin now))).may_leave p → (state (first_disk after)).may_leave p
  left_one p left = subst (λ (d : D). (state d).may_leave p) first left

  left_two : (q : List ℕ) → (state (second_disk (twin now))).may_leave q → (state (second_disk after)).may_leave q
  left_two q left = subst (λ (d : D). (state d).may_leave q) second left

  -- the bytes that the disks came back with
  came_one : (p : List ℕ) → (state (first_disk (twin now))).may_leave p → (a : List ℕ) × (present (state (first_disk mid)) ≡ Some a)
  came_one p left = told_bytes (state (first_disk mid)) (told_then over.first.rest.kind ((lawful (first_disk after)).told p (left_one p left)))

  came_two : (q : List ℕ) → (state (second_disk (twin now))).may_leave q → (b : List ℕ) × (present (state (second_disk mid)) ≡ Some b)
  came_two q left = told_bytes (state (second_disk mid)) (told_then over.second.rest.kind ((lawful (second_disk after)).told q (left_two q left)))

  was_one : (a : List ℕ) → present (state (first_disk mid)) ≡ Some a → (state (first_disk (twin before))).may_leave a
  was_one a is = restarts.first.images a ((lawful (first_disk mid)).present_may_stay a is)

  was_two : (b : List ℕ) → present (state (second_disk mid)) ≡ Some b → (state (second_disk (twin before))).may_leave b
  was_two b is = restarts.second.images b ((lawful (second_disk mid)).present_may_stay b is)

  kept : (a b : List ℕ) → present (state (first_disk mid)) ≡ Some a → present (state (second_disk mid)) ≡ Some b → KeepsPair state found mid
  kept a b is too = keeps (record { forth = λ k other. (b, too); back = λ k other. (a, is) })

  images : (p q : List ℕ) → (state (first_disk (twin now))).may_leave p → (state (second_disk (twin now))).may_leave q →
      (a b : List ℕ) × (state (first_disk (twin before))).may_leave a × (state (second_disk (twin before))).may_leave b × GoesOn m a b p q
  images p q one two =
      let x = came_one p one in
      let y = came_two q two in
      (x.0, y.0, was_one x.0 x.1, was_two y.0 y.1, over.images x.0 y.0 p q x.1 y.1 (stands x.0 y.0 x.1 y.1) (kept x.0 y.0 x.1 y.1) (left_one p one) (left_two q two))

  not_due : StaysWhereShort state (twin before) (twin now)
  not_due = λ short p q one two.
      let x = came_one p one in
      let y = came_two q two in
      let few = short x.0 y.0 found (was_one x.0 x.1) (was_two y.0 y.1) (stands x.0 y.0 x.1 y.1) in
      let small : 2 * row_length found.records ≤ (state (first_disk mid)).size = omega (arith, few.0, restarts.first.kind.size) in
      let small_too : 2 * row_length found.records ≤ (state (second_disk mid)).size = omega (arith, few.1, restarts.second.kind.size) in
      let same = over.not_due (is_short state found mid (kept x.0 y.0 x.1 y.1) small small_too) in (
        restarts.first.images p (subst (λ (t : Twin D). (state (first_disk t)).may_leave p) same (left_one p one)),
        restarts.second.images q (subst (λ (t : Twin D). (state (second_disk t)).may_leave q) same (left_two q two)),
      )

  failed : answer ≡ Err open_error.Failed →
      FailsItself (state (first_disk (twin before))).counts (state (first_disk (twin now))).counts ⊎ FailsItself (state (second_disk (twin before))).counts (state (second_disk (twin now))).counts
  failed is = ⊎_elim
      (λ one. inl (subst (λ (d : D). FailsItself (state (first_disk (twin before))).counts (state d).counts) (sym first) (fails_itself pick restarts.first over.first one)))
      (λ two. inr (subst (λ (d : D). FailsItself (state (second_disk (twin before))).counts (state d).counts) (sym second) (fails_itself pick restarts.second over.second two)))
      (over.failed is)

  pub came_back : twin_is_down (twin now) ≡ is_err answer
      → IfErr answer (λ error. (a b : List ℕ) → present (state (first_disk (twin now))) ≡ Some a → present (state (second_disk (twin now))) ≡ Some b → IsDamage m a b error)
      → ComesBack state m twin (GoesOn m) pick before now answer
  came_back down damaged = record {
    damaged = damaged;
    images = images;
    not_due = not_due;
    failed = failed;
    not_full = over.not_full;
    first = subst (λ (d : D). ComesUp (is_ok answer) pick (state (first_disk (twin before))) (state d)) (sym first) (comes_up (is_ok answer) pick restarts.first over.first);
    second = subst (λ (d : D). ComesUp (is_ok answer) pick (state (second_disk (twin before))) (state d)) (sym second) (comes_up (is_ok answer) pick restarts.second over.second);
    up = down;
  }

-- where the disks didn't come back, or hold nothing that can be read
pub stayed_down : {S D K I : Type 0} (state : D → DiskState) (m : Meaning K I) (pick : ℕ) (twin : S → Twin D) (before now : S)
    → RestartsPair false pick (state (first_disk (twin before))) (state (second_disk (twin before))) (state (first_disk (twin now))) (state (second_disk (twin now)))
    → (e : OpenError) → IsNotFull e → twin_is_down (twin now) ≡ true
    → (e ≡ open_error.Failed →
    FailsItself (state (first_disk (twin before))).counts (state (first_disk (twin now))).counts ⊎ FailsItself (state (second_disk (twin before))).counts (state (second_disk (twin now))).counts)
    → ((a b : List ℕ) → present (state (first_disk (twin now))) ≡ Some a → present (state (second_disk (twin now))) ≡ Some b → IsDamage m a b e)
    → ComesBack state m twin (GoesOn m) pick before now (Err e)
stayed_down state m pick twin before now restarts e not_full down failed damaged = record {
  damaged = damaged;
  images = λ p q one two. (p, q, restarts.first.images p one, restarts.second.images q two, inl (refl, refl));
  not_due = λ short p q one two. (restarts.first.images p one, restarts.second.images q two);
  failed = λ is. failed (same_error e open_error.Failed is);
  not_full = not_full;
  first = stays_down pick restarts.first;
  second = stays_down pick restarts.second;
  up = down;
}
  where
    answer : OpenError → Result (Unit {0}) OpenError
    answer e = Err e

    same_error : (e f : OpenError) → answer e ≡ answer f → e ≡ f
    same_error e f is = cc

-- ---- what has a store in it

module _ {S M K D I : Type 0} (state : D → DiskState) (m : Meaning K I) (store : S → Store M K D) (one two : D) where
  pub reads_in : (s : S) → ReadsDisks state m (λ (k : Store M K D). k) one two (Ok (store s)) → ReadsDisks state m store one two (Ok s)
  reads_in s reads = record {
    read = reads.read;
    place = reads.place;
    damaged = tt;
    failed = tt;
    not_full = tt;
    first_reads = reads.first_reads;
    second_reads = reads.second_reads;
    up = reads.up;
  }

  pub reads_none : (failed : OpenError × D × D) → ReadsDisks state m (λ (k : Store M K D). k) one two (Err failed) → ReadsDisks state m store one two (Err failed)
  reads_none failed reads = record {
    read = tt;
    place = tt;
    damaged = reads.damaged;
    failed = reads.failed;
    not_full = reads.not_full;
    first_reads = reads.first_reads;
    second_reads = reads.second_reads;
    up = tt;
  }

  module _ {G H : (a b c d : List ℕ) → Type 0} (weaker : (a b c d : List ℕ) → G a b c d → H a b c d) where
    pub opens_in : (s : S) → OpensDisks state m (λ (k : Store M K D). k) G one two (Ok (store s)) → OpensDisks state m store H one two (Ok s)
    opens_in s opens = record {
      opened = opens.opened;
      place = opens.place;
      damaged = tt;
      images = λ a b c d is too left left_too. weaker a b c d (opens.images a b c d is too left left_too);
      not_due = opens.not_due;
      failed = tt;
      not_full = tt;
      first_disk = opens.first_disk;
      second_disk = opens.second_disk;
      up = opens.up;
    }

    pub opens_none : (failed : OpenError × D × D) → OpensDisks state m (λ (k : Store M K D). k) G one two (Err failed) → OpensDisks state m store H one two (Err failed)
    opens_none failed opens = record {
      opened = tt;
      place = tt;
      damaged = opens.damaged;
      images = λ a b c d is too left left_too. weaker a b c d (opens.images a b c d is too left left_too);
      not_due = opens.not_due;
      failed = opens.failed;
      not_full = opens.not_full;
      first_disk = opens.first_disk;
      second_disk = opens.second_disk;
      up = tt;
    }

pub back_in : {S M K D I : Type 0} (state : D → DiskState) (m : Meaning K I) (store : S → Store M K D) {G H : (a b c d : List ℕ) → Type 0} → ((a b c d : List ℕ) → G a b c d → H a b c d)
    → (pick : ℕ) (old new : S) (answer : Result (Unit {0}) OpenError) → ComesBack state m twin_of G pick (store old) (store new) answer → ComesBack state m (twin_in store) H pick old new answer
back_in state m store weaker pick old new answer back = record {
  damaged = back.damaged;
  images = λ c d left left_too. let i = back.images c d left left_too in (i.0, i.1, i.2, i.3, weaker i.0 i.1 c d i.4);
  not_due = back.not_due;
  failed = back.failed;
  not_full = back.not_full;
  first = back.first;
  second = back.second;
  up = back.up;
}
