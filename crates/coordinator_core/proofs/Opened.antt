-- The coordinator after its opening.
use Rattle.std.proofs.Common.{◌≡◌, ◌⊎◌, inl, inr, ◌*◌, ◌≤◌, ℕ, false, List, [], Some, None, sym, ap, subst, ◌∙◌, arith}
use Rattle.disk_model.specs.Disk.{DiskState, HasCause, IsLawful, IsSettled, Rose, present}
use Rattle.disk_model.specs.Stop.{below, stop_of, left_of, state_of}
use Rattle.disk_model.specs.declared.stoppable.Stop.TheVariants.{Off}
use Rattle.disk_model.specs.declared.stoppable.Stoppable.{Stoppable}
use Rattle.disk_journal.specs.Keeping.{OnlyReads}
use Rattle.disk_journal.specs.Reading.{row_length}
use Rattle.seata_types.specs.declared.errors.OpenError.{OpenError}
use Rattle.seata_types.specs.declared.errors.OpenError.TheVariants as open_error
use Rattle.seata_types.specs.declared.limits.TheConstants.{MANAGERS}
use Rattle.journal_checkpoint.specs.declared.types.Found.{Found}
use Rattle.journal_checkpoint.specs.Images.{PairStandsFor}
use Rattle.journal_checkpoint.specs.Extents.{extent_of}
use Rattle.journal_checkpoint.specs.Keeping.{AreSized, active_disk, other_disk, first_disk, second_disk, is_second}
use Rattle.memory_store.specs.Keeping.{FindsFirst, IsDamage, IsNotFull, IsOf}
use Rattle.memory_store.specs.Checkpoints.{saving_by}
use Rattle.memory_store.specs.Settling.{RunsOn}
use Rattle.durable_records.specs.declared.coordinators.SessionRecord.{SessionRecord}
use Rattle.history_rules.specs.CoordinatorMemory.{start}
use Rattle.session_log.specs.declared.sessions.Snapshot.{Snapshot}
use Rattle.session_store.specs.Keeping.{known, store_of, twin, IsNoDamage, KeepsRecords}
use Rattle.session_store.specs.Meaning.{meaning_of}
use Rattle.session_store.specs.Standing.{StandsForSessions}
use Rattle.coordinator_core.specs.declared.nodes.Coordinator.{Coordinator}
use Rattle.seata_types.specs.declared.limits.TheConstants.{NODE_STEPS}
use Rattle.coordinator_core.specs.Opening.{AreReadWhereShort, GoOnAs, HandsBack, IsOnlyRead, IsOpened, IsOpenedDisk}
use Rattle.coordinator_core.specs.Standing.{StandsOver, LiesOver, pair_of, active_of, sessions_of, start_of, is_down, managers, resources}
use Rattle.coordinator_rules.specs.Starting.{started_on, no_moments, start_in}
use Rattle.coordinator_rules.specs.Tracks.{Tracks}
use Rattle.coordinator_core.proofs.Disks.{false_true, keeps_images}
use Rattle.coordinator_core.proofs.Laid.{lies_opened}
use Rattle.coordinator_core.proofs.Restarted.{unarmed_by}
use Rattle.coordinator_rules.proofs.StartLaws.{starts, start_is}

module _ {D : Type 0} (state : D → DiskState) (law : (d : Stoppable D) → IsLawful (state_of state d)) (c : Coordinator D) (rs : List SessionRecord)
    (keeps : KeepsRecords (state_of state) rs (sessions_of c)) (few : managers c ≤ MANAGERS) (up : is_down c ≡ false) (unarmed : (active_of state (sessions_of c)).counts.left ≡ None)
    (starts_at : start_of c ≡ start_in (known (sessions_of c))) (moments : c.table.moments ≡ started_on (start_of c) (known (sessions_of c)).sessions no_moments) where
  start_here : start_of c ≡ start rs
  start_here = starts_at ∙ start_is rs (known (sessions_of c)) keeps.knows

  pub opened : StandsOver state c rs []
  opened = record {
    disks = record {
      down = up;
      keeps = λ e. keeps;
      left = λ e. unarmed;
      images = λ a b first second. inl (keeps_images state law rs (sessions_of c) keeps a b first second);
      counted = omega arith;
    };
    starts = start_here;
    few = few;
    follows = λ e. record {
      tracks = subst (λ n. Tracks (known (sessions_of c)) c.table.moments rs (λ x. n) (λ x. n)) start_here
          (subst (λ m. Tracks (known (sessions_of c)) m rs (λ x. start_of c) (λ x. start_of c)) (sym moments)
          (starts rs (known (sessions_of c)) (start_of c) keeps.list.made.allowed keeps.knows (omega (arith, starts_at))));
    };
    fallen = λ e. false_true e;
  }

-- ---- the disks of an opening

-- a disk behind a stop that isn't armed, and what an opening of it leaves
module _ {D : Type 0} (state : D → DiskState) (d : D) (s : Stoppable D) (same : below s ≡ d) where
  pub settled_below : IsSettled (state d) → IsSettled (state_of state s)
  settled_below settled = subst (λ q. IsSettled (state q)) (sym same) settled

  pub told_below : (a : List ℕ) → present (state d) ≡ Some a → present (state_of state s) ≡ Some a
  told_below a told = ap (λ q. present (state q)) same ∙ told

  -- a disk that was only read with its stop was only read below it
  pub only_read : (s' : Stoppable D) → OnlyReads (state_of state s) (state_of state s') → IsOnlyRead (state d) (state (below s'))
  only_read s' r = subst (λ q. IsOnlyRead (state q) (state (below s'))) same (record {
    content = record { content = r.content.content; images = r.content.images; outcomes = r.content.outcomes };
    images = record { now = r.images.now; later = r.images.later; since = r.images.since; kept = r.images.kept };
  })

  module _ (s' : Stoppable D) (ran : RunsOn (state_of state s) (state_of state s')) where
    pub opened_disk : IsOpenedDisk (state d) (state (below s'))
    opened_disk = subst (λ q. IsOpenedDisk (state q) (state (below s'))) same (record {
      rest = record {
        kind = record { size = ran.rest.kind.size; tells_images = ran.rest.kind.tells_images; tells_moments = ran.rest.kind.tells_moments };
        last_pick = ran.rest.last_pick;
      };
      faults = ran.own;
    })

    pub unarmed_still : stop_of s ≡ Off → (state_of state s').counts.left ≡ None
    unarmed_still off = ran.unarmed (ap left_of off)

    pub fault_below : stop_of s ≡ Off → HasCause (state_of state s).counts (state_of state s').counts → Rose (state d).counts.faults (state (below s')).counts.faults
    fault_below off h = by h.cause
      where
        by : Rose (state_of state s).counts.own (state_of state s').counts.own ⊎ ((state_of state s').counts.left ≡ Some 0) → Rose (state d).counts.faults (state (below s')).counts.faults
        by (inl rose) = subst (λ q. Rose (state q).counts.faults (state (below s')).counts.faults) same rose
        by (inr stuck) = absurd (let no : None ≡ Some 0 = sym (unarmed_still off) ∙ stuck in cc)

module _ {D : Type 0} (state : D → DiskState) (law : (d : Stoppable D) → IsLawful (state_of state d)) (manager_count resource_count : ℕ) (first second : D) (s1 s2 : Stoppable D)
    (one : below s1 ≡ first) (two : below s2 ≡ second) (off1 : stop_of s1 ≡ Off) (off2 : stop_of s2 ≡ Off) where
  -- said of the bytes of the disks behind the stops
  abbrev pub Told : (List ℕ → List ℕ → Type 0) → Type 0
  Told P = (a b : List ℕ) → present (state_of state s1) ≡ Some a → present (state_of state s2) ≡ Some b → P a b

  of_told : (P : List ℕ → List ℕ → Type 0) → Told P → (a b : List ℕ) → present (state first) ≡ Some a → present (state second) ≡ Some b → P a b
  of_told P told a b is too = told a b (told_below state first s1 one a is) (told_below state second s2 two b too)

  -- what the sessions say of disks with their stops that hold short records
  abbrev pub ReadsWhereShort : (d1 d2 : Stoppable D) → Type 0
  ReadsWhereShort d1 d2 =
      (a b : List ℕ) (found : Found) → present (state_of state s1) ≡ Some a → present (state_of state s2) ≡ Some b → PairStandsFor found a b →
      2 * row_length found.records ≤ (state_of state s1).size → 2 * row_length found.records ≤ (state_of state s2).size →
      OnlyReads (state_of state s1) (state_of state d1) × OnlyReads (state_of state s2) (state_of state d2)

  read_below : (d1 d2 : Stoppable D) → ReadsWhereShort d1 d2 → AreReadWhereShort (state first) (state second) (state (below d1)) (state (below d2))
  read_below d1 d2 reads a b found is too stands short_first short_second =
      let both = reads a b found (told_below state first s1 one a is) (told_below state second s2 two b too) stands
      (subst (λ q. 2 * row_length found.records ≤ (state q).size) (sym one) short_first) (subst (λ q. 2 * row_length found.records ≤ (state q).size) (sym two) short_second) in
      (only_read state first s1 one d1 both.0, only_read state second s2 two d2 both.1)

  module _ (few : manager_count ≤ MANAGERS) (c : Coordinator D)
      (keeps : (rs : List SessionRecord) → Told (λ a b. StandsForSessions manager_count resource_count rs a b → KeepsRecords (state_of state) rs (sessions_of c)))
      (place : Told (λ a b. FindsFirst a b (store_of (sessions_of c))))
      (settles : Told (λ a b. IsOf (state_of state) (meaning_of manager_count resource_count) a b (store_of (sessions_of c))))
      (images : GoOnAs manager_count resource_count (state_of state s1) (state_of state s2) (pair_of state (sessions_of c)).first (pair_of state (sessions_of c)).second)
      (not_due : ReadsWhereShort (first_disk (twin (sessions_of c))) (second_disk (twin (sessions_of c))))
      (ran1 : RunsOn (state_of state s1) (pair_of state (sessions_of c)).first) (ran2 : RunsOn (state_of state s2) (pair_of state (sessions_of c)).second)
      (managers_are : managers c ≡ manager_count) (resources_are : resources c ≡ resource_count) (up : is_down c ≡ false)
      (starts_at : start_of c ≡ start_in (known (sessions_of c))) (moments : c.table.moments ≡ started_on (start_of c) (known (sessions_of c)).sessions no_moments)
      (steps : c.left ≡ NODE_STEPS) where
    unarmed : (active_of state (sessions_of c)).counts.left ≡ None
    unarmed = unarmed_by state (is_second (twin (sessions_of c))) (active_disk (twin (sessions_of c))) (other_disk (twin (sessions_of c)))
        (unarmed_still state first s1 one (first_disk (twin (sessions_of c))) ran1 off1) (unarmed_still state second s2 two (second_disk (twin (sessions_of c))) ran2 off2)

    stands_on : (rs : List SessionRecord) (a b : List ℕ) → StandsForSessions manager_count resource_count rs a b → KeepsRecords (state_of state) rs (sessions_of c) → StandsOver state c rs []
    stands_on rs a b stands k =
        opened state law c rs k (subst (λ n. n ≤ MANAGERS) (sym managers_are) few) up unarmed starts_at moments

    sized : (size : ℕ) → (state first).size ≡ size → (state second).size ≡ size → AreSized (state_of state) (twin (sessions_of c)) size
    sized size first_is second_is =
        let first_still = (opened_disk state first s1 one (first_disk (twin (sessions_of c))) ran1).rest.kind.size in
        let second_still = (opened_disk state second s2 two (second_disk (twin (sessions_of c))) ran2).rest.kind.size in
        record { first = first_still ∙ first_is; second = second_still ∙ second_is }

    lies_on : (size : ℕ) (rs : List SessionRecord) (a b : List ℕ) (found : Found) → AreSized (state_of state) (twin (sessions_of c)) size → PairStandsFor found a b → KeepsRecords (state_of state) rs (sessions_of c)
        → IsOf (state_of state) (meaning_of manager_count resource_count) a b (store_of (sessions_of c)) → LiesOver state c rs (extent_of found) size []
    lies_on size rs a b found sized pair k is =
        lies_opened (state_of state) law (meaning_of manager_count resource_count) (sessions_of c) rs size a b found (ap (λ (s : Snapshot). saving_by (meaning_of manager_count resource_count) s) k.knows) k is pair sized

    pub is_opened : IsOpened state first second manager_count resource_count c
    is_opened = record {
      stands = λ rs a b is too stands. stands_on rs a b stands (of_told (λ a b. StandsForSessions manager_count resource_count rs a b → KeepsRecords (state_of state) rs (sessions_of c)) (keeps rs) a b is too stands);
      lies = λ size rs a b found first_is second_is is too pair stands. lies_on size rs a b found (sized size first_is second_is) pair
          (of_told (λ a b. StandsForSessions manager_count resource_count rs a b → KeepsRecords (state_of state) rs (sessions_of c)) (keeps rs) a b is too stands)
          (of_told (λ a b. IsOf (state_of state) (meaning_of manager_count resource_count) a b (store_of (sessions_of c))) settles a b is too);
      place = of_told (λ a b. FindsFirst a b (store_of (sessions_of c))) place;
      settles = of_told (λ a b. IsOf (state_of state) (meaning_of manager_count resource_count) a b (store_of (sessions_of c))) settles;
      images = λ a b x y is too. images a b x y (told_below state first s1 one a is) (told_below state second s2 two b too);
      not_due = read_below (first_disk (twin (sessions_of c))) (second_disk (twin (sessions_of c))) not_due;
      first_disk = opened_disk state first s1 one (first_disk (twin (sessions_of c))) ran1;
      second_disk = opened_disk state second s2 two (second_disk (twin (sessions_of c))) ran2;
      managers_are = managers_are;
      resources_are = resources_are;
      steps = steps;
      early = let at = starts_at in omega (arith, at);
      up = up;
    }

  module _ (error : OpenError) (d1 d2 : Stoppable D) (images : GoOnAs manager_count resource_count (state_of state s1) (state_of state s2) (state_of state d1) (state_of state d2))
      (not_due : ReadsWhereShort d1 d2) (ran1 : RunsOn (state_of state s1) (state_of state d1)) (ran2 : RunsOn (state_of state s2) (state_of state d2)) where
    pub hands_back : ((rs : List SessionRecord) → Told (λ a b. StandsForSessions manager_count resource_count rs a b → IsNoDamage error)) → Told (λ a b. IsDamage (meaning_of manager_count resource_count) a b error)
        → IsNotFull error
        → (error ≡ open_error.Failed → HasCause (state_of state s1).counts (state_of state d1).counts ⊎ HasCause (state_of state s2).counts (state_of state d2).counts)
        → HandsBack state first second manager_count resource_count (error, below d1, below d2)
    hands_back recovers damaged not_full failed = record {
      recovers = λ rs. of_told (λ a b. StandsForSessions manager_count resource_count rs a b → IsNoDamage error) (recovers rs);
      damaged = of_told (λ a b. IsDamage (meaning_of manager_count resource_count) a b error) damaged;
      not_full = not_full;
      cause = λ e. causes (failed e);
      images = λ a b x y is too. images a b x y (told_below state first s1 one a is) (told_below state second s2 two b too);
      not_due = read_below d1 d2 not_due;
      first_disk = opened_disk state first s1 one d1 ran1;
      second_disk = opened_disk state second s2 two d2 ran2;
    }
      where
        causes : HasCause (state_of state s1).counts (state_of state d1).counts ⊎ HasCause (state_of state s2).counts (state_of state d2).counts
            → Rose (state first).counts.faults (state (below d1)).counts.faults ⊎ Rose (state second).counts.faults (state (below d2)).counts.faults
        causes (inl h) = inl (fault_below state first s1 one d1 ran1 off1 h)
        causes (inr h) = inr (fault_below state second s2 two d2 ran2 off2 h)

    -- memory was refused once they were open
    pub hands_opened : HandsBack state first second manager_count resource_count (open_error.NoMemory, below d1, below d2)
    hands_opened = record {
      recovers = λ rs a b is too stands. tt;
      damaged = λ a b is too. tt;
      not_full = tt;
      cause = λ e. absurd (let no : open_error.NoMemory ≡ open_error.Failed = e in cc);
      images = λ a b x y is too. images a b x y (told_below state first s1 one a is) (told_below state second s2 two b too);
      not_due = read_below d1 d2 not_due;
      first_disk = opened_disk state first s1 one d1 ran1;
      second_disk = opened_disk state second s2 two d2 ran2;
    }
