-- A resource whose disks were taken and read, or weren't; and what it is once its boot was written.
use Rattle.std.proofs.Common.{◌≡◌, ◌⊎◌, inl, inr, ℕ, List, [], Some, None, Err, refl, ap, sym, subst, ◌∙◌}
use Rattle.disk_model.specs.Disk.{DiskState, Rose}
use Rattle.disk_model.specs.Shelf.{SameUnder, ShelfState}
use Rattle.disk_model.specs.declared.stoppable.Stoppable.{Stoppable}
use Rattle.seata_types.specs.declared.errors.OpenError.{OpenError}
use Rattle.seata_types.specs.declared.errors.OpenError.TheVariants as why
use Rattle.seata_types.specs.declared.ids.Place.TheVariants as place
use Rattle.memory_store.specs.Holdings.{memory_on}
use Rattle.memory_store.specs.Keeping.{IsDamage, IsNotFull}
use Rattle.scenario_form.specs.declared.scenarios.ResourceDef.{ResourceDef}
use Rattle.scenario_form.specs.declared.scenarios.Scenario.{Scenario}
use Rattle.durable_records.specs.declared.resources.ResourceRecord.{ResourceRecord}
use Rattle.history_rules.specs.Own.{Left}
use Rattle.history_rules.specs.ResourceMemory.{memory}
use Rattle.history_rules.specs.ResourceMemory.{Setup as RuleSetup}
use Rattle.history_text.specs.Worlds as worlds
use Rattle.resource_store.specs.Keeping.{IsNoDamage}
use Rattle.resource_store.specs.Meaning.{meaning_of}
use Rattle.resource_store.specs.Standing.{StandsForRecords}
use Rattle.resource_core.specs.declared.branches.Branches.{Branches}
use Rattle.resource_core.specs.declared.nodes.Resource.{Resource}
use Rattle.resource_core.specs.declared.opening.Loaded.{Loaded}
use Rattle.resource_core.specs.declared.setup.Setup.{Setup}
use Rattle.resource_core.specs.NodeLaws.{lawful}
use Rattle.resource_core.specs.NodeOpening.{FailsStart, IsSetupWithin, loaded_disks, setting_at, setup_at}
use Rattle.resource_core.specs.NodeOpening.{IsNotLoaded as Refuses}
use Rattle.resource_core.specs.NodeStanding.{StandsForEither}
use Rattle.resource_core.specs.Shown.{setup_in}
use Rattle.node_seat.specs.Faults.{open_fault}
use Rattle.scenario_nodes.specs.Loading.{WritesBoot}
use Rattle.scenario_nodes.specs.Nodes.{HaveSize, Held, Holds, IsLoadedResource, IsNewResource, resource_disks, resource_role, resource_server, store_setting}
use Rattle.scenario_nodes.specs.Opening.{IsDamageOf, IsDamageOn, IsItsFault, IsLoadFault, IsUnopened, ShowNoEntry, ShowNoRecord, ShowsUnread}
use Rattle.scenario_nodes.specs.Shelves.{AreTaken, pair_of, second_name}
use Rattle.scenario_nodes.proofs.Holding.{bytes_of, failure_counted, next_first, next_second, rise_counted, stand_as}
use Rattle.scenario_nodes.proofs.OpenedResource.{damaged, opened, sized, stand, told, unopened}
use Rattle.scenario_nodes.proofs.Returned.{are_taken_since, holds_since, same_back}

module _ {D : Type 0} (state : D → DiskState) (shelf : ShelfState D) (s : Scenario) (n : ℕ) (def : ResourceDef) where
  -- ---- its disks couldn't be read

  module _ (disks : D × D) (taken : AreTaken state shelf s.disk def.name disks) (setup : Setup) (is : setup_at n setup ≡ worlds.setup_of s n def) (within : IsSetupWithin n setup)
      (failed : OpenError × D × D) (h : Refuses state disks.0 disks.1 n setup failed) where
    blamed : (e : OpenError) → IsNoDamage e → IsNotFull e → (e ≡ why.Failed → Rose (state disks.0).counts.faults (state failed.1).counts.faults ⊎ Rose (state disks.1).counts.faults (state failed.2).counts.faults)
        → IsLoadFault (place.Res n) (pair_of state (failed.1, failed.2)) (open_fault (place.Res n) e)
    blamed why.Failed none room cause = (refl, rise_counted state failed.1 failed.2 (state disks.0).counts.faults (state disks.1).counts.faults (cause refl))
    blamed (why.Damaged other offset) none room cause = absurd none
    blamed (why.Full full) none room cause = absurd room
    blamed why.NoMemory none room cause = tt

    damage : (held : Held) (a b : List ℕ) (e : OpenError) → IsDamage (meaning_of (setting_at n setup)) a b e → IsDamageOf s (resource_role s held n def) a b (open_fault (place.Res n) e)
    damage held a b why.Failed of = tt
    damage held a b (why.Damaged other offset) of = (refl, subst (λ (t : RuleSetup). memory_on (meaning_of (store_setting t)) a b ≡ Err (why.Damaged other offset)) is of)
    damage held a b (why.Full full) of = absurd of
    damage held a b why.NoMemory of = tt

    unread_damage : (held : Held) → IsDamageOn state shelf s (resource_server s held (n, def)) (open_fault (place.Res n) failed.0)
    unread_damage held x y next =
        let (a, is_a) = bytes_of (state disks.0) (next.first.tells disks.0 taken.first) in
        let (b, is_b) = bytes_of (state disks.1) (next.second.tells disks.1 taken.second) in
        let v = resource_server s held (n, def) in
        subst (λ p. IsDamageOf s v.role p y (open_fault (place.Res n) failed.0)) (next_first state shelf s v disks taken a b is_a is_b x y next)
        (subst (λ q. IsDamageOf s v.role a q (open_fault (place.Res n) failed.0)) (next_second state shelf s v disks taken a b is_a is_b x y next)
        (damage held a b failed.0 (h.damaged a b is_a is_b)))

    pub unread : (held : Held) → ShowsUnread state s shelf (open_fault (place.Res n) failed.0) (resource_server s held (n, def)) (failed.1, failed.2)
    unread held = record {
      blames = failure_counted state (place.Res n) failed.1 failed.2 (state disks.0).counts.faults (state disks.1).counts.faults failed.0 h.cause;
      damaged = unread_damage held;
      cause = λ holds.
          let (a, is_a) = bytes_of (state disks.0) (holds.next.first.tells disks.0 taken.first) in
          let (b, is_b) = bytes_of (state disks.1) (holds.next.second.tells disks.1 taken.second) in
          let here = stand state shelf s n def disks taken setup is within held a b (stand_as state shelf s (resource_server s held (n, def)) disks taken a b is_a is_b holds) in
          blamed failed.0 (h.recovers (held.past.resource n) a b is_a is_b here.0) h.not_full h.cause;
      unwritten = (
        record { first = h.first_disk.rest.kind.size ∙ taken.first.size; second = h.second_disk.rest.kind.size ∙ taken.second.size },
        λ holds.
            let (a, is_a) = bytes_of (state disks.0) (holds.next.first.tells disks.0 taken.first) in
            let (b, is_b) = bytes_of (state disks.1) (holds.next.second.tells disks.1 taken.second) in
            let here = stand state shelf s n def disks taken setup is within held a b (stand_as state shelf s (resource_server s held (n, def)) disks taken a b is_a is_b holds) in
            λ x y one two. told state shelf s n def disks taken setup is within (held.past.resource n) x y (h.images a b x y is_a is_b one two (held.past.resource n) here.0),
      );
    }

  -- ---- they were

  module _ (l : Loaded D) (r : IsLoadedResource state shelf s n def l) where
    pub loaded_shows : (held : Held) → ShowNoRecord state s shelf (resource_server s held (n, def)) (loaded_disks l)
    loaded_shows held = (
      record { first = r.loaded.first_disk.rest.kind.size ∙ r.taken.first.size; second = r.loaded.second_disk.rest.kind.size ∙ r.taken.second.size },
      λ holds.
          let (a, is_a) = bytes_of (state r.disks.0) (holds.next.first.tells r.disks.0 r.taken.first) in
          let (b, is_b) = bytes_of (state r.disks.1) (holds.next.second.tells r.disks.1 r.taken.second) in
          let here = stand state shelf s n def r.disks r.taken r.setup r.is r.loaded.within held a b (stand_as state shelf s (resource_server s held (n, def)) r.disks r.taken a b is_a is_b holds) in
          λ x y one two. told state shelf s n def r.disks r.taken r.setup r.is r.loaded.within (held.past.resource n) x y (r.loaded.images a b x y is_a is_b one two (held.past.resource n) here.0),
    )

    -- its boot was written
    pub started : (node : Resource D) → WritesBoot state l node → IsNewResource state shelf s n def node
    started node w =
        let number : l.branches.setup.number ≡ n = ap (λ (b : Branches (Stoppable D)). b.setup.number) r.loaded.is in
        opened state shelf s n def r.disks r.taken r.setup r.is r.loaded.within node (w.starts r.disks.0 r.disks.1 n r.setup r.loaded) (w.at ∙ ap place.Res number)

    -- or wasn't
    module _ (failed : OpenError × D × D) (fails : FailsStart state l failed) where
      pub start_counted : IsItsFault (place.Res n) (pair_of state (failed.1, failed.2)) (open_fault (place.Res n) failed.0)
      start_counted =
          failure_counted state (place.Res n) failed.1 failed.2 (state r.disks.0).counts.faults (state r.disks.1).counts.faults failed.0 (fails r.disks.0 r.disks.1 n r.setup r.loaded).cause

      pub start_sized : HaveSize s.disk (pair_of state (failed.1, failed.2))
      start_sized = sized state shelf s n def r.disks r.taken r.setup r.is r.loaded.within failed (fails r.disks.0 r.disks.1 n r.setup r.loaded)

      pub start_damaged : (held : Held) → IsDamageOn state shelf s (resource_server s held (n, def)) (open_fault (place.Res n) failed.0)
      start_damaged held = damaged state shelf s n def r.disks r.taken r.setup r.is r.loaded.within failed (fails r.disks.0 r.disks.1 n r.setup r.loaded) held

      pub start_unopened : (held : Held) → Holds state shelf s (resource_server s held (n, def))
          → IsUnopened (resource_server s held (n, def)) s.disk (pair_of state (failed.1, failed.2)) (open_fault (place.Res n) failed.0)
      start_unopened held = unopened state shelf s n def r.disks r.taken r.setup r.is r.loaded.within failed (fails r.disks.0 r.disks.1 n r.setup r.loaded) held

  -- nothing is in flight
  booted : (node : Resource D) (setup : RuleSetup) → setup ≡ setup_in node → (left : Left ResourceRecord) (a b : List ℕ) → StandsForEither (store_setting (setup_in node)) left None a b → StandsForRecords (store_setting setup) left.records a b
  booted node setup is left a b (inl stands) = subst (λ (t : RuleSetup). StandsForRecords (store_setting t) left.records a b) (sym is) stands
  booted node setup is left a b (inr (r, kept, stands)) = absurd (let no : None ≡ Some r = kept in cc)

  -- what the disks of a resource that made no entry show
  pub new_shows : (held : Held) (node : Resource D) → IsNewResource state shelf s n def node → ShowNoEntry state s shelf (resource_server s held (n, def)) (resource_disks node)
  new_shows held node new = (
    record { first = new.sized.first; second = new.sized.second },
    λ holds.
        let stands = new.stands held holds (new.told held holds) in
        let d = (lawful state node).device (resource_role s held n def) [] stands in (
          record { images = d.images; counted = d.counted },
          λ a b one two. inr (booted node (worlds.setup_of s n def) stands.is (memory (worlds.setup_of s n def) (held.past.resource n) []).left a b (stands.disks.images a b one two)),
        ),
  )

-- ---- of a shelf that other disks were taken of before

module _ {D : Type 0} (state : D → DiskState) (a b : ShelfState D) (s : Scenario) (n : ℕ) (def : ResourceDef) (first : SameUnder def.name a b) (second : SameUnder (second_name def.name) a b) where
  pub loaded_before : (l : Loaded D) → IsLoadedResource state b s n def l → IsLoadedResource state a s n def l
  loaded_before l r = record {
    disks = r.disks;
    taken = are_taken_since state s.disk def.name r.disks b a (same_back def.name a b first) (same_back (second_name def.name) a b second) r.taken;
    setup = r.setup;
    is = r.is;
    loaded = r.loaded;
  }

  pub new_before : (r : Resource D) → IsNewResource state b s n def r → IsNewResource state a s n def r
  new_before r new = record {
    stands = λ held holds. new.stands held (holds_since state s (resource_server s held (n, def)) a b first second holds);
    lies = λ held holds. new.lies held (holds_since state s (resource_server s held (n, def)) a b first second holds);
    told = λ held holds. new.told held (holds_since state s (resource_server s held (n, def)) a b first second holds);
    sized = new.sized;
    at = new.at;
    steps = new.steps;
    serving = new.serving;
  }
