-- A resource after its opening.
use Rattle.std.proofs.Common.{◌≡◌, ◌⊎◌, inl, inr, ◌≤◌, ◌+◌, ℕ, false, List, [], ◌∷◌, length, Some, None, Result, Ok, Err, IfOk, IfErr, refl, sym, ap, subst, ◌∙◌, arith}
use Rattle.std.specs.List.{AllByRecursion}
use Rattle.disk_model.specs.Disk.{DiskState, HasCause, IsLawful, IsSettled, KeepsRest, Rose, present}
use Rattle.disk_model.specs.Stop.{below, stop_of, left_of, state_of}
use Rattle.disk_model.specs.declared.stoppable.Stop.TheVariants.{Off}
use Rattle.disk_model.specs.declared.stoppable.Stoppable.{Stoppable}
use Rattle.disk_journal.specs.Keeping.{IsFull}
use Rattle.journal_checkpoint.specs.Extents.{Extent, extent_of, longer, needed}
use Rattle.journal_checkpoint.specs.Images.{PairStandsFor}
use Rattle.journal_checkpoint.specs.Keeping.{AreSized, active_disk, other_disk, first_disk, second_disk, is_second, twin_extent}
use Rattle.journal_checkpoint.specs.declared.types.Found.{Found}
use Rattle.memory_store.specs.Checkpoints.{checked}
use Rattle.memory_store.specs.Keeping.{FindsFirst, IsDamage, IsNotFull}
use Rattle.memory_store.specs.Keeping.{IsOf as IsOfBytes}
use Rattle.memory_store.specs.Openings.{OpensDisks}
use Rattle.memory_store.specs.Settling.{RunsOn}
use Rattle.memory_store.proofs.Damages.{same_found}
use Rattle.seata_types.specs.declared.errors.Full.{Full}
use Rattle.seata_types.specs.declared.errors.OpenError.{OpenError}
use Rattle.seata_types.specs.declared.errors.OpenError.TheVariants as open_error
use Rattle.seata_types.specs.declared.errors.StoreError.{StoreError}
use Rattle.seata_types.specs.declared.errors.StoreError.TheVariants as store_error
use Rattle.seata_types.specs.declared.ids.Place.TheVariants as place
use Rattle.local_txn.specs.Answers.{Tickets, no_tickets}
use Rattle.durable_records.specs.declared.resources.ResourceRecord.{ResourceRecord}
use Rattle.history_rules.specs.ResourceMemory.{Setup as RuleSetup, boot_over}
use Rattle.node_steps.specs.Ends.{resource_saving}
use Rattle.resource_log.specs.Records.{record_bytes}
use Rattle.resource_memory.specs.Known.{Known}
use Rattle.resource_store.specs.declared.store.Store.{Store}
use Rattle.resource_store.specs.Keeping.{Adds, Changes, GoesOnAs, IsNoDamage, KeepsEach, KeepsRecords, boot_record, known, setting_of, store_of, twin}
use Rattle.resource_store.specs.Meaning.{IsOf, Opens, Setting, meaning_of}
use Rattle.resource_store.specs.Openings.{IsUndamaged, boot_length, opening_error}
use Rattle.resource_store.specs.Standing.{StandsForRecords}
use Rattle.resource_store.proofs.OpeningLaws.{boot_damage, boot_images, boot_refused, boot_sound, boots_as, failed_disk, moved_first, moved_second, read_damage, read_undamaged}
use Rattle.record_places.specs.Within.{IsTableWithin}
use Rattle.resource_core.specs.declared.branches.Branches.{Branches}
use Rattle.resource_core.specs.declared.nodes.Resource.{Resource}
use Rattle.resource_core.specs.declared.opening.Loaded.{Loaded}
use Rattle.seata_types.specs.declared.limits.TheConstants.{NODE_STEPS}
use Rattle.resource_core.specs.declared.setup.Setup.{Setup}
use Rattle.resource_core.specs.NodeOpening.{GoOnWithBoot, HandsBack, IsLoaded, IsNotLoaded, IsOpened, IsOpenedDisk, IsSetupWithin, FailsStart, Starts, StaysUnwritten, loaded_at, loaded_disks, setting_at, setup_at, store_in, with_setup}
use Rattle.resource_core.specs.Lying.{Lies}
use Rattle.resource_core.specs.NodeStanding.{IsSound, StandsOver}
use Rattle.resource_rules.specs.Setups.{actions_of}
use Rattle.resource_core.specs.Shown.{active_of, stands_at}
use Rattle.resource_core.proofs.LyingLaws.{at_there, boot_bytes, lies_up, loaded}
use Rattle.resource_core.proofs.NodeDisks.{false_true, keeps_images}
use Rattle.resource_core.proofs.NodeRestarted.{fails_more, unarmed_by}

-- ---- the disks of an opening

-- the rest of a disk stays below its stop as behind it
rest_below : {D : Type 0} (state : D → DiskState) (x y : Stoppable D) → KeepsRest (state_of state x) (state_of state y) → KeepsRest (state (below x)) (state (below y))
rest_below state x y rest = record {
  kind = record { size = rest.kind.size; tells_images = rest.kind.tells_images; tells_moments = rest.kind.tells_moments };
  last_pick = rest.last_pick;
}

-- a disk behind a stop that isn't armed, and what an opening of it leaves
module _ {D : Type 0} (state : D → DiskState) (d : D) (s : Stoppable D) (same : below s ≡ d) where
  pub settled_below : IsSettled (state d) → IsSettled (state_of state s)
  settled_below settled = subst (λ q. IsSettled (state q)) (sym same) settled

  told_below : (a : List ℕ) → present (state d) ≡ Some a → present (state_of state s) ≡ Some a
  told_below a told = ap (λ q. present (state q)) same ∙ told

  module _ (s' : Stoppable D) (ran : RunsOn (state_of state s) (state_of state s')) where
    opened_disk : IsOpenedDisk (state d) (state (below s'))
    opened_disk = subst (λ q. IsOpenedDisk (state q) (state (below s'))) same (record {
      rest = rest_below state s s' ran.rest;
      faults = ran.own;
    })

    unarmed_still : stop_of s ≡ Off → (state_of state s').counts.left ≡ None
    unarmed_still off = ran.unarmed (ap left_of off)

    fault_below : stop_of s ≡ Off → HasCause (state_of state s).counts (state_of state s').counts → Rose (state d).counts.faults (state (below s')).counts.faults
    fault_below off h = by h.cause
      where
        by : Rose (state_of state s).counts.own (state_of state s').counts.own ⊎ ((state_of state s').counts.left ≡ Some 0) → Rose (state d).counts.faults (state (below s')).counts.faults
        by (inl rose) = subst (λ q. Rose (state q).counts.faults (state (below s')).counts.faults) same rose
        by (inr stuck) = absurd (let no : None ≡ Some 0 = sym (unarmed_still off) ∙ stuck in cc)

-- an error is told of disks without their stops alike
undamaged_below : {D : Type 0} (state : D → DiskState) (one two : Stoppable D) (e : OpenError) → IsUndamaged (state_of state one) (state_of state two) e → IsUndamaged (state (below one)) (state (below two)) e
undamaged_below state one two (open_error.Damaged second at) is = is
undamaged_below state one two (open_error.Full full) is =
    record { no_place = record { end = is.no_place.end; held = λ a b first second. is.no_place.held a b first second; past_end = is.no_place.past_end }; size = is.size }
undamaged_below state one two open_error.Failed is = tt
undamaged_below state one two open_error.NoMemory is = tt

-- a disk that went on from one that was opened
opened_then : (d x y : DiskState) → IsOpenedDisk d x → KeepsRest x y → x.counts.faults ≤ y.counts.faults → IsOpenedDisk d y
opened_then d x y o rest grown =
    let faults = o.faults in
    record {
      rest = record {
        kind = record { size = rest.kind.size ∙ o.rest.kind.size; tells_images = rest.kind.tells_images ∙ o.rest.kind.tells_images; tells_moments = rest.kind.tells_moments ∙ o.rest.kind.tells_moments };
        last_pick = rest.last_pick ∙ o.rest.last_pick;
      };
      faults = omega (arith, faults, grown);
    }

-- ---- two disks are loaded

module _ {D : Type 0} (state : D → DiskState) (number : ℕ) (w : Setup) (first second : D) (s1 s2 : Stoppable D)
    (one : below s1 ≡ first) (two : below s2 ≡ second) (off1 : stop_of s1 ≡ Off) (off2 : stop_of s2 ≡ Off) where
  abbrev t : Setting
  t = setting_at number w

  -- said of the bytes of the disks behind the stops
  abbrev pub Told : (List ℕ → List ℕ → Type 0) → Type 0
  Told P = (a b : List ℕ) → present (state_of state s1) ≡ Some a → present (state_of state s2) ≡ Some b → P a b

  of_told : (P : List ℕ → List ℕ → Type 0) → Told P → (a b : List ℕ) → present (state first) ≡ Some a → present (state second) ≡ Some b → P a b
  of_told P told a b is too = told a b (told_below state first s1 one a is) (told_below state second s2 two b too)

  abbrev StoreResult : Type 0
  StoreResult = Result (Store (Stoppable D)) (OpenError × Stoppable D × Stoppable D)

  -- what the store says of its opening
  abbrev Reads : StoreResult → Type 0
  Reads result = OpensDisks (state_of state) (meaning_of t) store_of (GoesOnAs t) s1 s2 result

  module _ (within : IsSetupWithin number w) (l : Loaded D) (is : l.branches ≡ with_setup number w l.branches) (stands : KeepsEach (state_of state) t s1 s2 (Ok (store_in l))) (opens : Reads (Ok (store_in l)))
      (sound : (meaning_of t).IsSound (known (store_in l))) where
    pub is_loaded : IsLoaded state first second number w l
    is_loaded = record {
      within = within;
      is = is;
      setting = stands.setting;
      keeps = λ rs. of_told (λ a b. StandsForRecords t rs a b → KeepsRecords (state_of state) t rs (store_in l)) (λ a b is too. stands.keeps rs a b is too);
      place = of_told (λ a b. FindsFirst a b (store_in l).kept) opens.place;
      settles = of_told (λ a b. IsOfBytes (state_of state) (meaning_of t) a b (store_in l).kept) opens.opened;
      sound = sound;
      images = λ a b x y is too. opens.images a b x y (told_below state first s1 one a is) (told_below state second s2 two b too);
      first_disk = opened_disk state first s1 one (first_disk (twin (store_in l))) opens.first_disk;
      second_disk = opened_disk state second s2 two (second_disk (twin (store_in l))) opens.second_disk;
      first_unarmed = unarmed_still state first s1 one (first_disk (twin (store_in l))) opens.first_disk off1;
      second_unarmed = unarmed_still state second s2 two (second_disk (twin (store_in l))) opens.second_disk off2;
      up = opens.up;
    }

  module _ (error : OpenError) (d1 d2 : Stoppable D) (stands : KeepsEach (state_of state) t s1 s2 (Err (error, d1, d2))) (opens : Reads (Err (error, d1, d2))) where
    pub is_not_loaded : IsNotLoaded state first second number w (error, below d1, below d2)
    is_not_loaded = record {
      recovers = λ rs. of_told (λ a b. StandsForRecords t rs a b → IsNoDamage error) (λ a b is too. stands.recovers rs a b is too);
      damaged = of_told (λ a b. IsDamage (meaning_of t) a b error) opens.damaged;
      not_full = opens.not_full;
      cause = λ e. by (opens.failed e);
      images = λ a b x y is too. opens.images a b x y (told_below state first s1 one a is) (told_below state second s2 two b too);
      first_disk = opened_disk state first s1 one d1 opens.first_disk;
      second_disk = opened_disk state second s2 two d2 opens.second_disk;
    }
      where
        by : HasCause (state_of state s1).counts (state_of state d1).counts ⊎ HasCause (state_of state s2).counts (state_of state d2).counts
            → Rose (state first).counts.faults (state (below d1)).counts.faults ⊎ Rose (state second).counts.faults (state (below d2)).counts.faults
        by (inl h) = inl (fault_below state first s1 one d1 opens.first_disk off1 h)
        by (inr h) = inr (fault_below state second s2 two d2 opens.second_disk off2 h)

-- what couldn't be loaded isn't opened
pub not_opened : {D : Type 0} (state : D → DiskState) (first second : D) (number : ℕ) (w : Setup) (failed : OpenError × D × D) → IsNotLoaded state first second number w failed → HandsBack state first second number w failed
not_opened state first second number w failed n = record {
  recovers = λ rs a b is too stands. read_undamaged (state failed.1) (state failed.2) failed.0 (n.recovers rs a b is too stands);
  full = λ size rs a b found one two is too pair stands full e. absurd (subst IsNotFull e n.not_full);
  damaged = λ a b is too. read_damage (meaning_of (setting_at number w)) a b failed.0 (n.damaged a b is too);
  cause = n.cause;
  images = λ a b x y is too left left_too rs stands. inl (n.images a b x y is too left left_too rs stands);
  first_disk = n.first_disk;
  second_disk = n.second_disk;
}

-- a store is full where its opening is
full_error : (error : StoreError) (full : Full) → opening_error error ≡ open_error.Full full → error ≡ store_error.Full full
full_error (store_error.Full full') full e = cc
full_error store_error.Failed full e = absurd cc
full_error store_error.NoMemory full e = absurd cc

-- ---- the boot is written

module _ {D : Type 0} (state : D → DiskState) (law : (d : Stoppable D) → IsLawful (state_of state d)) (l : Loaded D) (first second : D) (number : ℕ) (w : Setup) (i : IsLoaded state first second number w l)
    (s : Store (Stoppable D)) where
  abbrev its : Setting
  its = setting_at number w

  abbrev made : Result (Unit {0}) StoreError → Type 0
  made result = Changes (state_of state) (boot_record (known (store_in l))) result (store_in l) s

  first_now : (result : Result (Unit {0}) StoreError) → made result → IsOpenedDisk (state first) (state (below (first_disk (twin s))))
  first_now result m =
      let ran = moved_first (state_of state) result (store_in l) s m.disks in
      opened_then (state first) (state (loaded_disks l).0) (state (below (first_disk (twin s)))) i.first_disk (rest_below state (first_disk (twin (store_in l))) (first_disk (twin s)) ran.rest) ran.own

  second_now : (result : Result (Unit {0}) StoreError) → made result → IsOpenedDisk (state second) (state (below (second_disk (twin s))))
  second_now result m =
      let ran = moved_second (state_of state) result (store_in l) s m.disks in
      opened_then (state second) (state (loaded_disks l).1) (state (below (second_disk (twin s)))) i.second_disk (rest_below state (second_disk (twin (store_in l))) (second_disk (twin s)) ran.rest) ran.own

  images_now : (result : Result (Unit {0}) StoreError) → made result → GoOnWithBoot its (state first) (state second) (state (below (first_disk (twin s)))) (state (below (second_disk (twin s))))
  images_now result m a b x y is too left left_too =
      boot_images (state_of state) its a b (store_in l) i.setting (λ rs. i.keeps rs a b is too) (λ p q. i.images a b p q is too) result s m x y left left_too

  -- ---- where the journal stands of what was read, on disks of one size

  module _ (size : ℕ) (rs : List ResourceRecord) (a b : List ℕ) (found : Found) (one : (state first).size ≡ size) (two : (state second).size ≡ size)
      (is : present (state first) ≡ Some a) (too : present (state second) ≡ Some b) (pair : PairStandsFor found a b) (stands : StandsForRecords its rs a b) where
    -- behind a snapshot where one was due
    abbrev settled_at : Extent
    settled_at = checked size (resource_saving (setup_at number w) rs) (extent_of found)

    keeps_read : KeepsRecords (state_of state) (setting_of (store_in l)) rs (store_in l)
    keeps_read = subst (λ (q : Setting). KeepsRecords (state_of state) q rs (store_in l)) (sym i.setting) (i.keeps rs a b is too stands)

    boot_is : boot_record (known (store_in l)) ≡ boot_over rs
    boot_is = ap boot_record (i.keeps rs a b is too stands).knows

    sized_read : AreSized (state_of state) (twin (store_in l)) size
    sized_read = record { first = i.first_disk.rest.kind.size ∙ one; second = i.second_disk.rest.kind.size ∙ two }

    read_there : twin_extent (twin (store_in l)) ≡ settled_at
    read_there = loaded (state_of state) its (setup_at number w) refl (store_in l) a b (i.settles a b is too) size sized_read rs (extent_of found)
        (stands, ap extent_of (same_found a b stands.found found stands.pair pair)) (i.keeps rs a b is too stands).knows

    -- its boot was added
    module _ (m : made (Ok tt)) where
      boot_added : Adds (state_of state) (boot_record (known (store_in l))) rs (store_in l) s
      boot_added = m.makes rs keeps_read

      keeps_boot : KeepsRecords (state_of state) (setting_of s) (boot_over rs ∷ rs) s
      keeps_boot =
          subst (λ (q : ResourceRecord). KeepsRecords (state_of state) (setting_of s) (q ∷ rs) s) boot_is
          (subst (λ (q : Setting). KeepsRecords (state_of state) q (boot_record (known (store_in l)) ∷ rs) s) (sym m.setting) boot_added.keeps)

      lies_opened : Lies (state_of state) s (setup_at number w) rs (extent_of found) size []
      lies_opened = lies_up (state_of state) law (setup_at number w) rs (extent_of found) size [] s
          (record { first = (first_now (Ok tt) m).rest.kind.size ∙ one; second = (second_now (Ok tt) m).rest.kind.size ∙ two }) keeps_boot
          (boot_added.extent ∙ ap (λ (q : ResourceRecord). longer (length (record_bytes q)) (twin_extent (twin (store_in l)))) boot_is ∙ ap (longer (length (record_bytes (boot_over rs)))) read_there)

    -- or it doesn't fit
    boot_full : (full : Full) → made (Err (store_error.Full full)) → IsFull (needed settled_at boot_length) size full
    boot_full full m =
        let bytes = length (record_bytes (boot_record (known (store_in l)))) in
        subst (λ (n : ℕ). IsFull (needed settled_at n) size full) (boot_bytes ((known (store_in l)).boots + 1))
        (at_there (state_of state) size (λ (n k : ℕ). IsFull n k full) (store_in l) settled_at bytes read_there sized_read (m.makes rs keeps_read))

  -- ---- it is

  module _ (m : made (Ok tt)) where
    setting : setting_of s ≡ its
    setting = m.setting ∙ i.setting

    unarmed : (active_of state s).counts.left ≡ None
    unarmed = unarmed_by state (is_second (twin s)) (active_disk (twin s)) (other_disk (twin s))
        ((moved_first (state_of state) (Ok tt) (store_in l) s m.disks).unarmed i.first_unarmed) ((moved_second (state_of state) (Ok tt) (store_in l) s m.disks).unarmed i.second_unarmed)

    abbrev pub opening : Resource D
    opening = record {
      branches = record { setup = record { number = number; tries = w.tries; actions = w.actions; locals = w.locals }; store = s; txns = no_tickets (known s).boots };
      down = false;
      flight = None;
      records = 0;
      left = NODE_STEPS;
    }

    of_setting : Setting → RuleSetup
    of_setting q = record { number = q.resource; schema = q.schema; opening = q.opening; tries = w.tries; actions = actions_of w.actions; locals = w.locals }

    stands_on : (rs : List ResourceRecord) → KeepsRecords (state_of state) its (boot_over rs ∷ rs) s → StandsOver state opening (setup_at number w) rs []
    unfolding of_setting
    stands_on rs k =
        let here : KeepsRecords (state_of state) (setting_of s) (boot_over rs ∷ rs) s = subst (λ (q : Setting). KeepsRecords (state_of state) q (boot_over rs ∷ rs) s) (sym setting) k in
        record {
          is = ap of_setting (sym setting);
          numbered = refl;
          down = refl;
          disks = record {
            passes = λ e. unarmed;
            images = λ x y one two. inl (keeps_images state law (setting_of s) (boot_over rs ∷ rs) s here x y one two);
            counted = omega arith;
          };
          holds = λ e. record { keeps = here; tickets = ap (λ (q : Known). no_tickets q.boots) here.knows };
          fallen = λ e. false_true e;
        }

    sound : (meaning_of its).IsSound (known s)
    sound = subst (λ (q : Known). (meaning_of its).IsSound q) (sym m.knows) (boot_sound its (known (store_in l)) i.sound)

    is_sound : IsSound opening
    is_sound = record {
      numbered = ap (λ (q : Setting). q.resource) (sym setting);
      counted = i.within.counted;
      opens = subst Opens (sym setting) i.within.opens;
      tables = subst (λ (q : Setting). AllByRecursion IsTableWithin q.schema.tables) (sym setting) i.within.tables;
      actions = i.within.actions;
      locals = i.within.locals;
      steps = omega arith;
      up = λ e. m.down;
      knows = λ e. subst (λ (q : Setting). IsOf q (known s)) (sym setting) (sound i.within.opens);
      tickets = λ e. tt;
    }

    is_opening : IsOpened state first second number w opening
    is_opening = record {
      stands = λ rs a b is too stands. stands_on rs (boots_as (state_of state) its a b (store_in l) i.setting (λ qs. i.keeps qs a b is too) s m rs stands);
      lies = λ size rs a b found one two is too pair stands. lies_opened size rs a b found one two is too pair stands m;
      place = λ a b is too found stands. m.found ∙ i.place a b is too found stands;
      settles = λ a b is too. record { loaded = store_in l; is = i.settles a b is too; boots = m };
      images = images_now (Ok tt) m;
      first_disk = first_now (Ok tt) m;
      second_disk = second_now (Ok tt) m;
      sound = is_sound;
      steps = refl;
      up = refl;
    }

    -- the branches that were loaded, with the store and these tickets
    abbrev started : Tickets → Branches (Stoppable D) → Resource D
    started txns b = record { branches = record b { store = s; txns = txns }; down = false; flight = None; records = 0; left = NODE_STEPS }

    pub is_opened : (txns : Tickets) → txns ≡ no_tickets (known s).boots → IsOpened state first second number w (started txns l.branches)
    is_opened txns tickets =
        subst (λ (b : Branches (Stoppable D)). IsOpened state first second number w (started txns b)) (sym i.is)
        (subst (λ (ts : Tickets). IsOpened state first second number w (started ts (with_setup number w l.branches))) (sym tickets) is_opening)

  -- ---- it isn't

  module _ (error : StoreError) (m : made (Err error)) where
    pub hands_back : HandsBack state first second number w (opening_error error, below (first_disk (twin s)), below (second_disk (twin s)))
    hands_back = record {
      recovers = λ rs a b is too stands. undamaged_below state (first_disk (twin s)) (second_disk (twin s)) (opening_error error)
          (boot_refused (state_of state) its a b (store_in l) i.setting (λ qs. i.keeps qs a b is too) law error s m rs stands);
      full = λ size rs a b found one two is too pair stands full e.
          boot_full size rs a b found one two is too pair stands full (subst (λ (z : StoreError). made (Err z)) (full_error error full e) m);
      damaged = λ a b is too. boot_damage (meaning_of its) a b error;
      cause = λ e. by (failed_disk (state_of state) error (store_in l) s e m.disks);
      images = images_now (Err error) m;
      first_disk = first_now (Err error) m;
      second_disk = second_now (Err error) m;
    }
      where
        -- a failure of a disk without a stop is its own fault
        rose : (a : DiskState) (x y : Stoppable D) → IsOpenedDisk a (state (below x)) → (state_of state y).counts.left ≡ None → HasCause (state_of state x).counts (state_of state y).counts → Rose a.counts.faults (state (below y)).counts.faults
        rose a x y o none h = by h.cause
          where
            by : Rose (state_of state x).counts.own (state_of state y).counts.own ⊎ ((state_of state y).counts.left ≡ Some 0) → Rose a.counts.faults (state (below y)).counts.faults
            by (inl more) = fails_more a.counts.faults (state (below x)).counts.faults (state (below y)).counts.faults o.faults more
            by (inr stuck) = absurd (let no : None ≡ Some 0 = sym none ∙ stuck in cc)

        by : HasCause (state_of state (first_disk (twin (store_in l)))).counts (state_of state (first_disk (twin s))).counts ⊎ HasCause (state_of state (second_disk (twin (store_in l)))).counts (state_of state (second_disk (twin s))).counts
            → Rose (state first).counts.faults (state (below (first_disk (twin s)))).counts.faults ⊎ Rose (state second).counts.faults (state (below (second_disk (twin s)))).counts.faults
        by (inl h) = inl (rose (state first) (first_disk (twin (store_in l))) (first_disk (twin s)) i.first_disk ((moved_first (state_of state) (Err error) (store_in l) s m.disks).unarmed i.first_unarmed) h)
        by (inr h) = inr (rose (state second) (second_disk (twin (store_in l))) (second_disk (twin s)) i.second_disk ((moved_second (state_of state) (Err error) (store_in l) s m.disks).unarmed i.second_unarmed) h)

-- the disks of a store whose boot was refused without a failure
pub unwritten : {D : Type 0} (state : D → DiskState) (l : Loaded D) (s : Store (Stoppable D)) (e : StoreError) → Changes (state_of state) (boot_record (known (store_in l))) (Err e) (store_in l) s
    → StaysUnwritten l (opening_error e, below (first_disk (twin s)), below (second_disk (twin s)))
unwritten state l s store_error.Failed m = inl refl
unwritten {D} state l s (store_error.Full full) m = inr (ap (λ (k : Store (Stoppable D)). below (first_disk (twin k))) m.disks, ap (λ (k : Store (Stoppable D)). below (second_disk (twin k))) m.disks)
unwritten {D} state l s store_error.NoMemory m = inr (ap (λ (k : Store (Stoppable D)). below (first_disk (twin k))) m.disks, ap (λ (k : Store (Stoppable D)). below (second_disk (twin k))) m.disks)

-- the error and the disks that are given back
abbrev pub pair_back : {D : Type 0} → OpenError → Stoppable D × Stoppable D → OpenError × D × D
pair_back e p = (e, below p.0, below p.1)

pub given_back : {D : Type 0} (e e' : OpenError) (p q : Stoppable D × Stoppable D) → e ≡ e' → p ≡ q
    → pair_back e p ≡ pair_back e' q
given_back e e' p q same disks = λ i. (same i, below (disks i).0, below (disks i).1)

-- ---- both, one after the other

module _ {D : Type 0} (state : D → DiskState) (first second : D) (number : ℕ) (w : Setup) (l : Loaded D) (i : IsLoaded state first second number w l) where
  pub opened_by : (result : Result (Resource D) (OpenError × D × D)) → IfOk result (Starts state l) → IfOk result (IsOpened state first second number w)
  opened_by (Ok r) starts = starts first second number w i
  opened_by (Err failed) starts = tt

  pub refused_by : (result : Result (Resource D) (OpenError × D × D)) → IfErr result (FailsStart state l) → IfErr result (HandsBack state first second number w)
  refused_by (Ok r) fails = tt
  refused_by (Err failed) fails = fails first second number w i

  pub placed_by : (result : Result (Resource D) (OpenError × D × D)) → IfOk result (λ r. stands_at r ≡ loaded_at l) → IfOk result (λ r. stands_at r ≡ place.Res number)
  placed_by (Ok r) at = at ∙ ap (λ (b : Branches (Stoppable D)). place.Res b.setup.number) i.is
  placed_by (Err failed) at = tt
