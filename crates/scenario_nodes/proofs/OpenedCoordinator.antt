-- The coordinator that is opened on disks of a shelf, or isn't.
use Rattle.std.proofs.Common.{◌≡◌, ◌⊎◌, ℕ, List, [], length, refl, sym, subst, ◌∙◌}
use Rattle.disk_model.specs.Disk.{DiskState, Rose}
use Rattle.disk_model.specs.Shelf.{ShelfState}
use Rattle.journal_checkpoint.specs.Extents.{Extent}
use Rattle.memory_store.specs.Keeping.{IsDamage}
use Rattle.seata_types.specs.declared.errors.OpenError.{OpenError}
use Rattle.seata_types.specs.declared.errors.OpenError.TheVariants as why
use Rattle.seata_types.specs.declared.ids.Place.TheVariants as place
use Rattle.seata_types.specs.declared.messages.Input.TheVariants as input
use Rattle.scenario_form.specs.declared.scenarios.Scenario.{Scenario}
use Rattle.session_store.specs.Keeping.{IsNoDamage}
use Rattle.session_store.specs.Meaning.{meaning_of}
use Rattle.node_steps.specs.Promises.{AreTold}
use Rattle.history_text.specs.Worlds.{times_of}
use Rattle.coordinator_core.specs.declared.nodes.Coordinator.{Coordinator}
use Rattle.coordinator_core.specs.Opening.{HandsBack, IsOpened}
use Rattle.coordinator_core.specs.Serving.{HasNumbers}
use Rattle.coordinator_core.specs.Standing.{LiesAs, StandsAs, disks_of}
use Rattle.coordinator_core.specs.Standing.{resources as resources_kept, times_of as times_kept}
use Rattle.node_seat.specs.Faults.{open_fault}
use Rattle.scenario_nodes.specs.Shelves.{AreTaken, coordinator_name, pair_of}
use Rattle.scenario_nodes.specs.Nodes.{HaveSize, Held, Holds, IsNewCoordinator, ServesAll, coordinator_role, coordinator_server}
use Rattle.scenario_nodes.specs.Opening.{IsDamageOf, IsDamageOn, IsOpenFault, IsUnopened}
use Rattle.scenario_nodes.proofs.Holding.{bytes_of, next_first, next_second, rise_counted, stand_as}

module _ {D : Type 0} (state : D → DiskState) (shelf : ShelfState D) (s : Scenario) (disks : D × D) (taken : AreTaken state shelf s.disk coordinator_name disks) where
  abbrev managed : ℕ
  managed = length s.managers

  abbrev served : ℕ
  served = length s.resources

  -- ---- it wasn't opened

  module _ (failed : OpenError × D × D) (h : HandsBack state disks.0 disks.1 managed served failed) where
    blamed : (held : Held) (e : OpenError) → IsNoDamage e
        → (e ≡ why.Failed → Rose (state disks.0).counts.faults (state failed.1).counts.faults ⊎ Rose (state disks.1).counts.faults (state failed.2).counts.faults)
        → IsOpenFault (coordinator_server s held) s.disk (pair_of state (failed.1, failed.2)) (open_fault place.Tc e)
    blamed held why.Failed none cause = (refl, rise_counted state failed.1 failed.2 (state disks.0).counts.faults (state disks.1).counts.faults (cause refl))
    blamed held (why.Damaged other offset) none cause = absurd none
    blamed held (why.Full full) none cause = absurd none
    blamed held why.NoMemory none cause = tt

    damage : (held : Held) (a b : List ℕ) (e : OpenError) → IsDamage (meaning_of managed served) a b e → IsDamageOf s (coordinator_role s held) a b (open_fault place.Tc e)
    damage held a b why.Failed of = tt
    damage held a b (why.Damaged other offset) of = (refl, of)
    damage held a b (why.Full full) of = absurd of
    damage held a b why.NoMemory of = tt

    pub damaged : (held : Held) → IsDamageOn state shelf s (coordinator_server s held) (open_fault place.Tc failed.0)
    damaged held x y next =
        let (a, is_a) = bytes_of (state disks.0) (next.first.tells disks.0 taken.first) in
        let (b, is_b) = bytes_of (state disks.1) (next.second.tells disks.1 taken.second) in
        subst (λ p. IsDamageOf s (coordinator_role s held) p y (open_fault place.Tc failed.0)) (next_first state shelf s (coordinator_server s held) disks taken a b is_a is_b x y next)
        (subst (λ q. IsDamageOf s (coordinator_role s held) a q (open_fault place.Tc failed.0)) (next_second state shelf s (coordinator_server s held) disks taken a b is_a is_b x y next)
        (damage held a b failed.0 (h.damaged a b is_a is_b)))

    pub sized : HaveSize s.disk (pair_of state (failed.1, failed.2))
    sized = record { first = h.first_disk.rest.kind.size ∙ taken.first.size; second = h.second_disk.rest.kind.size ∙ taken.second.size }

    pub unopened : (held : Held) → Holds state shelf s (coordinator_server s held) → IsUnopened (coordinator_server s held) s.disk (pair_of state (failed.1, failed.2)) (open_fault place.Tc failed.0)
    unopened held holds =
        let (a, is_a) = bytes_of (state disks.0) (holds.next.first.tells disks.0 taken.first) in
        let (b, is_b) = bytes_of (state disks.1) (holds.next.second.tells disks.1 taken.second) in
        let past = held.past.sessions in
        let stand = stand_as state shelf s (coordinator_server s held) disks taken a b is_a is_b holds in
        record {
          device = λ x y here there. (managed, served, h.images a b x y is_a is_b here there past stand.0);
          cause = blamed held failed.0 (h.recovers past a b is_a is_b stand.0) h.cause;
        }

  -- ---- it was

  module _ (c : Coordinator D) (times : times_kept c ≡ times_of s) (o : IsOpened state disks.0 disks.1 managed served c) where
    stands : (held : Held) → Holds state shelf s (coordinator_server s held) → AreTold (disks_of state c) → StandsAs state c (coordinator_role s held) []
    stands held holds told =
        let (a, is_a) = bytes_of (state disks.0) (sym o.first_disk.rest.kind.tells_images ∙ told.first) in
        let (b, is_b) = bytes_of (state disks.1) (sym o.second_disk.rest.kind.tells_images ∙ told.second) in
        let stand = stand_as state shelf s (coordinator_server s held) disks taken a b is_a is_b holds in
        (sym times, o.stands held.past.sessions a b is_a is_b stand.0)

    lies : (held : Held) → Holds state shelf s (coordinator_server s held) → AreTold (disks_of state c) → LiesAs state c (coordinator_role s held) (held.starts place.Tc) s.disk []
    lies held holds told =
        let (a, is_a) = bytes_of (state disks.0) (sym o.first_disk.rest.kind.tells_images ∙ told.first) in
        let (b, is_b) = bytes_of (state disks.1) (sym o.second_disk.rest.kind.tells_images ∙ told.second) in
        let stand = stand_as state shelf s (coordinator_server s held) disks taken a b is_a is_b holds in
        subst (λ (start : Extent). LiesAs state c (coordinator_role s held) start s.disk []) stand.1
        (o.lies s.disk held.past.sessions a b stand.0.found taken.first.size taken.second.size is_a is_b stand.0.pair stand.0)

    serves_all : ServesAll managed served c
    serves_all input.Turn may framable = tt
    serves_all (input.Message from heard) may framable = record {
      framable = framable;
      numbers = subst (λ n. HasNumbers n (resources_kept c) heard) (sym o.managers_are) (subst (λ n. HasNumbers managed n heard) (sym o.resources_are) may);
    }
    serves_all (input.Local number) may framable = tt
    serves_all (input.Outside number) may framable = tt

    pub opened : IsNewCoordinator state shelf s managed served c
    opened = record {
      stands = stands;
      lies = lies;
      told = λ held holds. record {
        first = o.first_disk.rest.kind.tells_images ∙ holds.next.first.tells disks.0 taken.first;
        second = o.second_disk.rest.kind.tells_images ∙ holds.next.second.tells disks.1 taken.second;
      };
      sized = record { first = o.first_disk.rest.kind.size ∙ taken.first.size; second = o.second_disk.rest.kind.size ∙ taken.second.size };
      steps = o.steps;
      early = o.early;
      serving = serves_all;
    }
