-- The nodes with disks of a scenario, in order.
use Rattle.std.proofs.Common.{◌≡◌, inl, ◌∙◌, ◌++◌, ℕ, List, ◌∷◌, map, ap, sym, subst}
use Rattle.disk_model.specs.Disk.{DiskState}
use Rattle.disk_model.specs.Shelf.{ShelfState}
use Rattle.scenario_form.specs.declared.scenarios.Scenario.{Scenario}
use Rattle.node_seat.specs.declared.faults.RunFault.TheVariants as fault
use Rattle.scenario_nodes.specs.Nodes.{Held, Server, coordinator_server, name_of, resource_servers, server_names, servers_of}
use Rattle.scenario_nodes.specs.Opening.{NodesNotOpened}
use Rattle.scenario_nodes.specs.Shelves.{IsDiskName, coordinator_name}
use Rattle.scenario_nodes.specs.Together.{IsOfOne}
use Rattle.scenario_nodes.proofs.AllBack.{of_at}
use Rattle.scenario_nodes.proofs.AllBack.{none_asked as none_had}
use Rattle.scenario_nodes.proofs.Numbered.{names_numbered}
use Rattle.replay_runner.specs.Leaving.{IsServerDisk}

-- ---- names

names_of_servers : (s : Scenario) (held : Held) → map name_of (servers_of s held) ≡ server_names s
names_of_servers s held = ap (λ (names : List (List ℕ)). coordinator_name ∷ names) (names_numbered s held 1 s.resources)

-- the disks of one of them
pub of_server : (s : Scenario) (held : Held) (before behind : List Server) (v : Server) → servers_of s held ≡ before ++ v ∷ behind → (n : List ℕ) → IsDiskName v.name n → IsServerDisk s n
of_server s held before behind v all n named =
    subst (λ (names : List (List ℕ)). IsOfOne names n) (ap (map name_of) (sym all) ∙ names_of_servers s held) (of_at before behind v n named)

-- ---- memory was refused before any disk was asked for

pub none_asked : {D : Type 0} (state : D → DiskState) (s : Scenario) (shelf : ShelfState D) → NodesNotOpened state s (servers_of s) shelf shelf fault.NoMemory
none_asked state s shelf held = inl (none_had state s shelf (coordinator_server s held) (resource_servers s held))
