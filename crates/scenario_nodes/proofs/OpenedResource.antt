-- The resource that is opened on disks of a shelf, or isn't.
use Rattle.std.proofs.Common.{inl, inr, ◌≡◌, ◌⊎◌, ℕ, List, [], ◌∷◌, Err, length, refl, sym, subst, ◌∙◌}
use Rattle.disk_model.specs.Disk.{DiskState, Rose}
use Rattle.disk_model.specs.Shelf.{ShelfState}
use Rattle.disk_journal.specs.Keeping.{IsFull}
use Rattle.journal_checkpoint.specs.Ends.{HasNoPlace}
use Rattle.journal_checkpoint.specs.Extents.{Extent, extent_of, needed}
use Rattle.memory_store.specs.Checkpoints.{checked}
use Rattle.memory_store.specs.Holdings.{memory_on}
use Rattle.seata_types.specs.declared.errors.Full.{Full}
use Rattle.seata_types.specs.declared.errors.OpenError.{OpenError}
use Rattle.seata_types.specs.declared.errors.OpenError.TheVariants as why
use Rattle.seata_types.specs.declared.ids.Place.TheVariants as place
use Rattle.durable_records.specs.declared.resources.ResourceRecord.{ResourceRecord}
use Rattle.scenario_form.specs.declared.scenarios.ResourceDef.{ResourceDef}
use Rattle.scenario_form.specs.declared.scenarios.Scenario.{Scenario}
use Rattle.history_rules.specs.Nodes.{Resource as ResourceRole}
use Rattle.history_rules.specs.ResourceMemory.{boot_over}
use Rattle.history_rules.specs.ResourceMemory.{Setup as RuleSetup}
use Rattle.node_steps.specs.Ends.{resource_saving}
use Rattle.node_steps.specs.Promises.{AreTold}
use Rattle.history_text.specs.Worlds as worlds
use Rattle.resource_log.specs.Records.{fields_bytes, record_bytes}
use Rattle.resource_store.specs.Keeping.{StandsAt, WithOrWithout}
use Rattle.resource_store.specs.Meaning.{Opens, Setting, meaning_of}
use Rattle.resource_store.specs.Openings.{IsBootDamage, IsUndamaged, boot_length}
use Rattle.resource_store.specs.Standing as store
use Rattle.resource_core.specs.declared.nodes.Resource.{Resource}
use Rattle.resource_core.specs.declared.setup.Setup.{Setup}
use Rattle.resource_core.specs.NodeOpening.{HandsBack, IsOpened, IsSetupWithin, setting_at, setup_at}
use Rattle.resource_core.specs.NodeStanding.{LiesAs, StandsOver}
use Rattle.resource_core.specs.Shown as shown
use Rattle.resource_core.specs.Shown.{disks_of}
use Rattle.node_seat.specs.Faults.{open_fault}
use Rattle.scenario_nodes.specs.Shelves.{AreTaken, pair_of}
use Rattle.scenario_nodes.specs.Nodes.{HaveSize, Held, Holds, IsNewResource, StandAs, resource_role, resource_server, store_setting}
use Rattle.scenario_nodes.specs.Opening.{BootIsOver, IsDamageOf, IsDamageOn, IsOpenFault, IsUnopened}
use Rattle.scenario_nodes.proofs.Holding.{bytes_of, next_first, next_second, rise_counted, stand_as}

-- a boot has as many bytes, whatever its number
pub boot_size : (rs : List ResourceRecord) → boot_length ≡ length (record_bytes (boot_over rs))
unfolding fields_bytes
boot_size rs = refl

is_over : (t : RuleSetup) (past : List ResourceRecord) (start : Extent) (size : ℕ) (full : Full) → IsFull (needed (checked size (resource_saving t past) start) boot_length) size full → BootIsOver (ResourceRole t past) start size full
is_over t past start size full over = subst (λ (m : ℕ). IsFull (needed (checked size (resource_saving t past) start) m) size full) (boot_size past) over

module _ {D : Type 0} (state : D → DiskState) (shelf : ShelfState D) (s : Scenario) (n : ℕ) (def : ResourceDef) (disks : D × D) (taken : AreTaken state shelf s.disk def.name disks)
    (setup : Setup) (is : setup_at n setup ≡ worlds.setup_of s n def) (within : IsSetupWithin n setup) where
  abbrev setting : Setting
  setting = setting_at n setup

  -- what its bytes stand for, in the words of its store
  pub stand : (held : Held) (a b : List ℕ) → StandAs s (resource_role s held n def) (held.starts (place.Res n)) a b → StandsAt setting (held.past.resource n) (held.starts (place.Res n)) a b
  stand held a b e = subst (λ (t : RuleSetup). Opens (store_setting t) → StandsAt (store_setting t) (held.past.resource n) (held.starts (place.Res n)) a b) (sym is) e within.opens

  -- and in those of the scenario
  pub told : (rs : List ResourceRecord) (a b : List ℕ) → store.StandsForRecords setting rs a b → store.StandsForRecords (store_setting (worlds.setup_of s n def)) rs a b
  told rs a b e = subst (λ (t : RuleSetup). store.StandsForRecords (store_setting t) rs a b) is e

  -- ---- it wasn't opened

  module _ (failed : OpenError × D × D) (h : HandsBack state disks.0 disks.1 n setup failed) where
    same_size : (full : Full) → (full.size ≡ (state failed.1).size) ⊎ (full.size ≡ (state failed.2).size) → full.size ≡ s.disk
    same_size full (inl e) = e ∙ h.first_disk.rest.kind.size ∙ taken.first.size
    same_size full (inr e) = e ∙ h.second_disk.rest.kind.size ∙ taken.second.size

    -- a boot without a place on the disks
    no_place : (held : Held) (full : Full) → (full.size ≡ (state failed.1).size) ⊎ (full.size ≡ (state failed.2).size) → HasNoPlace (record { first = state failed.1; second = state failed.2 }) full.size boot_length full
        → HasNoPlace (pair_of state (failed.1, failed.2)) s.disk (length (record_bytes (boot_over (held.past.resource n)))) full
    no_place held full size none =
        subst (λ (m : ℕ). HasNoPlace (pair_of state (failed.1, failed.2)) s.disk m full) (boot_size (held.past.resource n))
        (subst (λ (m : ℕ). HasNoPlace (pair_of state (failed.1, failed.2)) m boot_length full) (same_size full size)
        (record { end = none.end; held = λ a b here there. none.held a b here there; past_end = none.past_end }))

    blamed : (held : Held) (e : OpenError) → IsUndamaged (state failed.1) (state failed.2) e
        → ((full : Full) → e ≡ why.Full full → BootIsOver (resource_role s held n def) (held.starts (place.Res n)) s.disk full)
        → (e ≡ why.Failed → Rose (state disks.0).counts.faults (state failed.1).counts.faults ⊎ Rose (state disks.1).counts.faults (state failed.2).counts.faults)
        → IsOpenFault (resource_server s held (n, def)) s.disk (pair_of state (failed.1, failed.2)) (open_fault (place.Res n) e)
    blamed held why.Failed none over cause = (refl, rise_counted state failed.1 failed.2 (state disks.0).counts.faults (state disks.1).counts.faults (cause refl))
    blamed held (why.Damaged other offset) none over cause = absurd none
    blamed held (why.Full full) none over cause = (refl, over full refl, no_place held full none.size none.no_place)
    blamed held why.NoMemory none over cause = tt

    damage : (held : Held) (a b : List ℕ) (e : OpenError) → IsBootDamage (meaning_of setting) a b e → IsDamageOf s (resource_role s held n def) a b (open_fault (place.Res n) e)
    damage held a b why.Failed of = tt
    damage held a b (why.Damaged other offset) of = (refl, subst (λ (t : RuleSetup). memory_on (meaning_of (store_setting t)) a b ≡ Err (why.Damaged other offset)) is of)
    damage held a b (why.Full full) of = tt
    damage held a b why.NoMemory of = tt

    pub damaged : (held : Held) → IsDamageOn state shelf s (resource_server s held (n, def)) (open_fault (place.Res n) failed.0)
    damaged held x y next =
        let (a, is_a) = bytes_of (state disks.0) (next.first.tells disks.0 taken.first) in
        let (b, is_b) = bytes_of (state disks.1) (next.second.tells disks.1 taken.second) in
        let v = resource_server s held (n, def) in
        subst (λ p. IsDamageOf s v.role p y (open_fault (place.Res n) failed.0)) (next_first state shelf s v disks taken a b is_a is_b x y next)
        (subst (λ q. IsDamageOf s v.role a q (open_fault (place.Res n) failed.0)) (next_second state shelf s v disks taken a b is_a is_b x y next)
        (damage held a b failed.0 (h.damaged a b is_a is_b)))

    either : (rs : List ResourceRecord) (a b : List ℕ) → WithOrWithout setting (boot_over rs) rs a b
        → store.StandsForRecords (store_setting (worlds.setup_of s n def)) rs a b ⊎ store.StandsForRecords (store_setting (worlds.setup_of s n def)) (boot_over rs ∷ rs) a b
    either rs a b (inl e) = inl (told rs a b e)
    either rs a b (inr e) = inr (told (boot_over rs ∷ rs) a b e)

    pub sized : HaveSize s.disk (pair_of state (failed.1, failed.2))
    sized = record { first = h.first_disk.rest.kind.size ∙ taken.first.size; second = h.second_disk.rest.kind.size ∙ taken.second.size }

    pub unopened : (held : Held) → Holds state shelf s (resource_server s held (n, def))
        → IsUnopened (resource_server s held (n, def)) s.disk (pair_of state (failed.1, failed.2)) (open_fault (place.Res n) failed.0)
    unopened held holds =
        let (a, is_a) = bytes_of (state disks.0) (holds.next.first.tells disks.0 taken.first) in
        let (b, is_b) = bytes_of (state disks.1) (holds.next.second.tells disks.1 taken.second) in
        let past = held.past.resource n in
        let here = stand held a b (stand_as state shelf s (resource_server s held (n, def)) disks taken a b is_a is_b holds) in
        record {
          device = λ x y one two. either past x y (h.images a b x y is_a is_b one two past here.0);
          cause = blamed held failed.0 (h.recovers past a b is_a is_b here.0)
              (λ full e. subst (λ (t : RuleSetup). BootIsOver (ResourceRole t past) (held.starts (place.Res n)) s.disk full) is
              (subst (λ (start : Extent). BootIsOver (ResourceRole (setup_at n setup) past) start s.disk full) here.1
              (is_over (setup_at n setup) past (extent_of here.0.found) s.disk full (h.full s.disk past a b here.0.found taken.first.size taken.second.size is_a is_b here.0.pair here.0 full e)))) h.cause;
        }

  -- ---- it was

  module _ (r : Resource D) (o : IsOpened state disks.0 disks.1 n setup r) where
    stands : (held : Held) → Holds state shelf s (resource_server s held (n, def)) → AreTold (disks_of state r) → StandsOver state r (worlds.setup_of s n def) (held.past.resource n) []
    stands held holds tells =
        let (a, is_a) = bytes_of (state disks.0) (sym o.first_disk.rest.kind.tells_images ∙ tells.first) in
        let (b, is_b) = bytes_of (state disks.1) (sym o.second_disk.rest.kind.tells_images ∙ tells.second) in
        let here = stand held a b (stand_as state shelf s (resource_server s held (n, def)) disks taken a b is_a is_b holds) in
        subst (λ (t : RuleSetup). StandsOver state r t (held.past.resource n) []) is (o.stands (held.past.resource n) a b is_a is_b here.0)

    lies : (held : Held) → Holds state shelf s (resource_server s held (n, def)) → AreTold (disks_of state r) → LiesAs state r (resource_role s held n def) (held.starts (place.Res n)) s.disk []
    lies held holds tells =
        let (a, is_a) = bytes_of (state disks.0) (sym o.first_disk.rest.kind.tells_images ∙ tells.first) in
        let (b, is_b) = bytes_of (state disks.1) (sym o.second_disk.rest.kind.tells_images ∙ tells.second) in
        let past = held.past.resource n in
        let here = stand held a b (stand_as state shelf s (resource_server s held (n, def)) disks taken a b is_a is_b holds) in
        subst (λ (t : RuleSetup). LiesAs state r (ResourceRole t past) (held.starts (place.Res n)) s.disk []) is
        (subst (λ (start : Extent). LiesAs state r (ResourceRole (setup_at n setup) past) start s.disk []) here.1
        (o.lies s.disk past a b here.0.found taken.first.size taken.second.size is_a is_b here.0.pair here.0))

    pub opened : shown.stands_at r ≡ place.Res n → IsNewResource state shelf s n def r
    opened at = record {
      stands = stands;
      lies = lies;
      told = λ held holds. record {
        first = o.first_disk.rest.kind.tells_images ∙ holds.next.first.tells disks.0 taken.first;
        second = o.second_disk.rest.kind.tells_images ∙ holds.next.second.tells disks.1 taken.second;
      };
      sized = record { first = o.first_disk.rest.kind.size ∙ taken.first.size; second = o.second_disk.rest.kind.size ∙ taken.second.size };
      at = at;
      steps = o.steps;
      serving = λ given serves. (o.sound, serves);
    }
