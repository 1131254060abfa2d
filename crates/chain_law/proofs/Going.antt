-- The disks that a history left hold records that it may leave.
use Rattle.std.proofs.Common.{◌≡◌, ◌+◌, ℕ, zero, suc, add-one, true, IsTrue, List, [], ◌∷◌, length, map, slice_get, Some, None, option_map, refl, ap, sym, subst, ◌∙◌, arith}
use Rattle.std.specs.List.{list_all}
use Rattle.std.proofs.lemmas.Option.{slice_get-map}
use Rattle.disk_model.specs.Disk.{DiskState, IsLawful, present}
use Rattle.disk_model.specs.Shelf.{ShelfState}
use Rattle.journal_checkpoint.specs.Extents.{Extent, blank, extent_of}
use Rattle.journal_checkpoint.specs.Images.{Pair}
use Rattle.seata_types.specs.declared.ids.Place.{Place}
use Rattle.seata_types.specs.declared.ids.Place.TheVariants as place
use Rattle.durable_records.specs.declared.coordinators.SessionRecord.{SessionRecord}
use Rattle.durable_records.specs.declared.resources.ResourceRecord.{ResourceRecord}
use Rattle.durable_records.specs.SessionOrder.{is_within}
use Rattle.scenario_form.specs.declared.scenarios.ResourceDef.{ResourceDef}
use Rattle.scenario_form.specs.declared.scenarios.Scenario.{Scenario}
use Rattle.scenario_form.specs.Runnable.{IsRunnable, resource_name}
use Rattle.history_rules.specs.ResourceMemory.{Setup, memory}
use Rattle.history_rules.specs.Nodes.{MayStand, counted_at}
use Rattle.history_rules.specs.Nodes.{Coordinator as CoordinatorRole, Resource as ResourceRole}
use Rattle.history_rules.specs.Histories.{Legal, Moment, coordinator_left, memory_at, own}
use Rattle.history_rules.specs.Chains.{MayLeave}
use Rattle.history_law.proofs.MessageHistory.{messages_over_any}
use Rattle.history_text.specs.Worlds.{resources_of, setup_of, times_of, world_of}
use Rattle.scenario_nodes.specs.Nodes.{Held, HoldAll, Holds, coordinator_role, resource_role, resource_server}
use Rattle.scenario_nodes.specs.Shelves.{AreGivenBack, BackTell, IsGivenIn, IsNext, coordinator_name, pair_of}
use Rattle.scenario_nodes.proofs.Holding.{bytes_of, next_given}
use Rattle.replay_runner.specs.Leaving.{AllOpenAgain, AreAllBack, OpensAgain, nth_pair}
use Rattle.replay_runner.proofs.NewNodes.{held_named}
use Rattle.replay_runner.proofs.Roles.{from_map, length-managers, length-resources, resource_there, role_of_resource}
use Rattle.replay_runner.proofs.Shown.{nth_map}
use Rattle.replay_runner.proofs.Worlds.{world_of-names}
use Rattle.chain_law.specs.Chained.{GoesOn}
use Rattle.chain_law.proofs.Chosen.{choices, chosen_at, each_at, numbered_all, of_number}
use Rattle.chain_law.proofs.Named.{are_named, are_within, left_named, may_stand_named}

-- what the disks of a resource hold, and where their journal stands
abbrev Kept : Type 0
Kept = List ResourceRecord × Extent

abbrev none_kept : Kept
none_kept = ([], blank)

-- where the journals stand, by where the coordinator's does and those of the resources
abbrev starts_of : Extent → (ℕ → Kept) → Place → Extent
starts_of first kept place.Tc = first
starts_of first kept (place.Res n) = (of_number kept none_kept n).1
starts_of first kept _ = blank

module _ {D : Type 0} (state : D → DiskState) (lawful : (d : D) → IsLawful (state d)) (s : Scenario) (runs : IsRunnable s) (held : Held) (old new : ShelfState D) (all : BackTell state old new) (tells : IsTrue new.tells)
    (holds : HoldAll state old s held) (ms : List Moment) (legal : Legal (world_of s) held.past ms) where
  -- a disk that was given back is the one that the shelf gives next, and its bytes are one of its images
  record IsBackNext (name : List ℕ) (d : D) : Type 0 where
    bytes : List ℕ
    is : present (state d) ≡ Some bytes
    stays : (state d).may_leave bytes
    taken : IsNext state new s.disk name bytes

  is_next : (name : List ℕ) (d : D) → IsGivenIn old new name d → IsBackNext name d
  is_next name d given =
      let (x, is) = bytes_of (state d) (all name d given) in
      record { bytes = x; is = is; stays = (lawful d).present_may_stay x is; taken = next_given state new s.disk name d x (given.back.given tells) is }

  -- ---- the coordinator

  -- the records of before name managers and resources of the scenario
  within_before : list_all (is_within (length (world_of s).managers) (length (world_of s).resources)) held.past.sessions ≡ true
  within_before =
      subst (λ (n : ℕ). list_all (is_within n (length (resources_of s))) held.past.sessions ≡ true) (sym (length-managers s.lock_tries 1 s.managers))
      (subst (λ (n : ℕ). list_all (is_within (length s.managers) n) held.past.sessions ≡ true) (sym (length-resources s)) holds.0.stand.0.list.made.within)

  -- and so do those that may stand now
  within_now : (managers resources : ℕ) (rs : List SessionRecord) → MayStand (coordinator_left held.past ms) rs → list_all (is_within managers resources) rs ≡ true → list_all (is_within (length s.managers) (length s.resources)) rs ≡ true
  within_now managers resources rs stand within =
      let sent = messages_over_any (world_of s) held.past ms (world_of-names s runs) (held_named state old s held holds) legal in
      let named = left_named (world_of s) held.past ms legal sent (are_named (world_of s) held.past.sessions within_before) in
      subst (λ (n : ℕ). list_all (is_within n (length s.resources)) rs ≡ true) (length-managers s.lock_tries 1 s.managers)
      (subst (λ (n : ℕ). list_all (is_within (length (world_of s).managers) n) rs ≡ true) (length-resources s)
      (are_within (world_of s) managers resources rs within (may_stand_named (world_of s) (coordinator_left held.past ms) rs named stand)))

  record CoordinatorGoes : Type 0 where
    records : List SessionRecord
    start : Extent
    stand : MayStand (coordinator_left held.past ms) records
    holds_next : Holds state new s (record { name = coordinator_name; role = CoordinatorRole (times_of s) records; start = start })

  coordinator_goes : (disks : D × D) → AreGivenBack old new coordinator_name disks → OpensAgain (coordinator_role s held) (own place.Tc ms) (pair_of state disks) → CoordinatorGoes
  coordinator_goes disks back opens =
      let a = is_next _ disks.0 back.first in
      let b = is_next _ disks.1 back.second in
      let (rs, stand, managers, resources, stands) = opens a.bytes b.bytes a.stays b.stays in
      let made = stands.list.made in
      record {
        records = rs;
        start = extent_of stands.found;
        stand = stand;
        holds_next = record {
          first = a.bytes;
          second = b.bytes;
          next = record { first = a.taken; second = b.taken };
          stand = (
            record {
              found = stands.found;
              pair = stands.pair;
              list = record {
                records = stands.list.records;
                made = record { allowed = made.allowed; within = within_now managers resources rs stand made.within; few = made.few };
                few = stands.list.few;
              };
            },
            refl,
          );
        };
      }

  -- ---- the resources

  record ResourceGoes (k : ℕ) (def : ResourceDef) (kept : Kept) : Type 0 where
    stand : MayStand (memory (setup_of s (k + 1) def) (held.past.resource (k + 1)) (own (place.Res (k + 1)) ms)).left kept.0
    holds_next : Holds state new s (record { name = def.name; role = ResourceRole (setup_of s (k + 1) def) kept.0; start = kept.1 })

  resource_goes : (k : ℕ) (def : ResourceDef) (disks : D × D) → AreGivenBack old new def.name disks → OpensAgain (resource_role s held (k + 1) def) (own (place.Res (k + 1)) ms) (pair_of state disks)
      → (kept : Kept) × ResourceGoes k def kept
  resource_goes k def disks back opens =
      let a = is_next _ disks.0 back.first in
      let b = is_next _ disks.1 back.second in
      let (rs, stand, stands) = opens a.bytes b.bytes a.stays b.stays in (
        (rs, extent_of stands.found),
        record {
          stand = stand;
          holds_next = record { first = a.bytes; second = b.bytes; next = record { first = a.taken; second = b.taken }; stand = λ _. (stands, refl) };
        },
      )

  -- ---- all of them

  module _ (disks : List (D × D)) (back : AreAllBack old new s disks) (opens : AllOpenAgain s held ms (map (pair_of state) disks)) where
    at_first : (ds : List (D × D)) → AreAllBack old new s ds → AllOpenAgain s held ms (map (pair_of state) ds) → CoordinatorGoes
    at_first [] given opening = absurd given
    at_first (d ∷ ds) given opening = coordinator_goes d given.0 (opening place.Tc (coordinator_role s held) refl)

    at_each : (ds : List (D × D)) → AreAllBack old new s ds → AllOpenAgain s held ms (map (pair_of state) ds) → (k : ℕ) (def : ResourceDef) → slice_get s.resources k ≡ Some def → (kept : Kept) × ResourceGoes k def kept
    at_each [] given opening k def at = absurd given
    at_each (d ∷ ds) given opening k def at =
        let named : slice_get (map resource_name s.resources) k ≡ Some def.name = slice_get-map resource_name s.resources k ∙ ap (option_map resource_name) at in
        let (e, here, its) = each_at (AreGivenBack old new) (map resource_name s.resources) ds k def.name given.1 named in
        let pair : nth_pair (map (pair_of state) (d ∷ ds)) (k + 1) ≡ pair_of state e =
        ap (nth_pair (map (pair_of state) (d ∷ ds))) (add-one k) ∙ nth_map state ds k e here in
        resource_goes k def e its (subst (λ (p : Pair). OpensAgain (resource_role s held (k + 1) def) (own (place.Res (k + 1)) ms) p) pair (opening (place.Res (k + 1)) (resource_role s held (k + 1) def) (role_of_resource s held.past k def at)))

    first : CoordinatorGoes
    first = at_first disks back opens

    all_chosen : (bs : List Kept) × ((k : ℕ) (def : ResourceDef) → slice_get s.resources k ≡ Some def → ResourceGoes k def (chosen_at none_kept bs k))
    all_chosen = choices none_kept ResourceGoes s.resources (at_each disks back opens)

    abbrev kept_at : ℕ → Kept
    kept_at k = chosen_at none_kept all_chosen.0 k

    abbrev next : Held
    next = record { past = record { sessions = first.records; resource = λ n. (of_number kept_at none_kept n).0 }; starts = starts_of first.start kept_at }

    resource_holds : (k : ℕ) (def : ResourceDef) → slice_get s.resources k ≡ Some def → Holds state new s (resource_server s next (k + 1, def))
    resource_holds k def at =
        subst (λ (kept : Kept). Holds state new s (record { name = def.name; role = ResourceRole (setup_of s (k + 1) def) kept.0; start = kept.1 }))
        (sym (ap (of_number kept_at none_kept) (add-one k))) (all_chosen.1 k def at).holds_next

    hold : HoldAll state new s next
    hold = (
      first.holds_next,
      numbered_all (Holds state new s) (resource_server s next) 1 s.resources (λ k def at. subst (λ (j : ℕ). Holds state new s (resource_server s next (j, def))) (let same : k + 1 ≡ 1 + k = omega arith in same) (resource_holds k def at)),
    )

    -- what may stand at a resource
    stand_at : (n : ℕ) (setup : Setup) → counted_at (resources_of s) n ≡ Some setup → MayStand (memory_at held.past setup ms).left (next.past.resource n)
    stand_at zero setup at = absurd (let no : None ≡ Some setup = at in cc)
    stand_at (suc k) setup at =
        let (def, here, is) = from_map (setup_of s (k + 1)) (slice_get s.resources k) setup (sym (resource_there s k) ∙ at) in
        subst (λ (u : Setup). MayStand (memory_at held.past u ms).left (kept_at k).0) (sym is) (all_chosen.1 k def here).stand

    follows : MayLeave (world_of s) held.past ms next.past
    follows = record { coordinator = first.stand; resources = λ n setup at. (next.past.resource n, 0, stand_at n setup at, refl) }

    pub goes_on : GoesOn state new s held ms
    goes_on = record { next = next; hold = hold; follows = follows }
