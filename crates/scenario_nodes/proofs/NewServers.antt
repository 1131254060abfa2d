-- All nodes with disks of a scenario, opened or not, behind the coordinator.
use Rattle.std.proofs.Common.{⊎_elim, inl, inr, ℕ, List, [], ◌∷◌, map, sym, subst}
use Rattle.disk_model.specs.Disk.{DiskState}
use Rattle.disk_model.specs.Shelf.{KeepsOthers, ShelfState}
use Rattle.journal_checkpoint.specs.Images.{Pair}
use Rattle.seata_types.specs.declared.ids.Place.TheVariants as place
use Rattle.scenario_form.specs.declared.scenarios.Scenario.{Scenario}
use Rattle.scenario_form.specs.Runnable.{IsRunnable}
use Rattle.coordinator_core.specs.declared.nodes.Coordinator.{Coordinator}
use Rattle.node_seat.specs.declared.faults.RunFault.{RunFault}
use Rattle.node_seat.specs.declared.faults.RunFault.TheVariants as fault
use Rattle.scenario_nodes.specs.Nodes.{Held, IsNewCoordinator, coordinator_disks, coordinator_server, name_of, resource_servers, servers_of}
use Rattle.scenario_nodes.specs.Opening.{AreNotOpened, IsBack, IsLoadFault, IsNotOpened, IsOpenFault, IsReturned, ShowsUnread, StopsLoading}
use Rattle.scenario_nodes.specs.Shelves.{IsDiskName, coordinator_name, pair_of}
use Rattle.scenario_nodes.specs.Together.{AreApart, GivesBack, Takes}
use Rattle.scenario_nodes.proofs.AllBack.{first_stops, loading_behind, starting_behind}
use Rattle.scenario_nodes.proofs.Apart.{servers_apart}
use Rattle.scenario_nodes.proofs.NewCoordinator.{coordinator_shows, coordinator_unwritten}
use Rattle.scenario_nodes.proofs.Numbered.{names_numbered}

-- their names, as those of servers
pub names_apart : (s : Scenario) (held : Held) → IsRunnable s → AreApart (coordinator_name ∷ map name_of (resource_servers s held))
names_apart s held runs = subst (λ (names : List (List ℕ)). AreApart (coordinator_name ∷ names)) (sym (names_numbered s held 1 s.resources)) (servers_apart s runs)

-- ---- the coordinator wasn't opened

module _ {D : Type 0} (state : D → DiskState) (s : Scenario) (held : Held) (old new : ShelfState D) (missed : RunFault) where
  load_fault : (disks : Pair) (m : RunFault) → IsOpenFault (coordinator_server s held) s.disk disks m → IsLoadFault place.Tc disks m
  load_fault disks (fault.Store at) cause = cause
  load_fault disks (fault.Full at full) cause = absurd cause.1
  load_fault disks (fault.Damaged at second offset) cause = absurd cause
  load_fault disks fault.Other cause = absurd cause
  load_fault disks fault.NoMemory cause = tt

  unread : IsReturned state s old new (coordinator_server s held) missed → IsBack (ShowsUnread state s old missed) old new (coordinator_server s held)
  unread r = record {
    disks = r.disks;
    taken = r.taken;
    back = r.back;
    shows = record {
      blames = r.blames;
      damaged = r.damaged;
      cause = λ holds. load_fault (pair_of state r.disks) missed (r.unopened holds).cause;
      unwritten = (r.sized, λ holds. (r.unopened holds).device);
    };
  }

  pub coordinator_stops : IsRunnable s → KeepsOthers (IsDiskName coordinator_name) old new → IsNotOpened state s old new (coordinator_server s held) missed → StopsLoading state s (servers_of s held) old new missed
  coordinator_stops runs keeps refused =
      first_stops state s old new (coordinator_server s held) (resource_servers s held) missed (names_apart s held runs) keeps (⊎_elim (λ h. inl h) (λ r. inr (unread r)) refused)

-- ---- it was, and the resources weren't

module _ {D : Type 0} (state : D → DiskState) (s : Scenario) (held : Held) (runs : IsRunnable s) (managers resources : ℕ) (c : Coordinator D) (old now mid new : ShelfState D) (fresh : IsNewCoordinator state old s managers resources c)
    (Asked : List ℕ → Type 0) (missed : RunFault) (takes : Takes (coordinator_name ∷ []) old now) (keeps : KeepsOthers Asked now mid) (gives : GivesBack (coordinator_name ∷ []) (coordinator_disks c ∷ []) mid new) where
  pub resources_stop : AreNotOpened state s (resource_servers s held) now mid missed → AreNotOpened state s (servers_of s held) old new missed
  resources_stop refused =
      ⊎_elim (λ loading. inl (loading_behind state s (coordinator_server s held ∷ []) (resource_servers s held) (coordinator_disks c ∷ []) old now mid new Asked missed (names_apart s held runs) takes keeps gives
      (coordinator_unwritten state old s managers resources c fresh held, tt) loading))
      (λ starting. inr (starting_behind state s (coordinator_server s held ∷ []) (resource_servers s held) (coordinator_disks c ∷ []) old now mid new Asked missed (names_apart s held runs) takes keeps gives
      (coordinator_shows state old s managers resources c fresh held, tt) starting)) refused
