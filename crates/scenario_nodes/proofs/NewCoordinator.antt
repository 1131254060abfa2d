-- What the disks of a coordinator that made no entry show: the records of before.
use Rattle.std.proofs.Common.{◌≡◌, inl, inr, ℕ, List, [], None, Some}
use Rattle.disk_model.specs.Disk.{DiskState}
use Rattle.disk_model.specs.Shelf.{ShelfState}
use Rattle.disk_model.specs.declared.stoppable.Stoppable.{Stoppable}
use Rattle.durable_records.specs.declared.coordinators.SessionRecord.{SessionRecord}
use Rattle.session_store.specs.declared.sessions.Sessions.{Sessions}
use Rattle.session_store.specs.Keeping.{managers_of, resources_of}
use Rattle.scenario_form.specs.declared.scenarios.Scenario.{Scenario}
use Rattle.history_rules.specs.CoordinatorMemory.{sessions_left}
use Rattle.history_rules.specs.Own.{Left}
use Rattle.coordinator_core.specs.declared.nodes.Coordinator.{Coordinator}
use Rattle.coordinator_core.specs.NodeLaws.{lawful}
use Rattle.coordinator_core.specs.Standing.{StandsForEither, sessions_of}
use Rattle.scenario_nodes.specs.Nodes.{Held, Holds, IsNewCoordinator, coordinator_disks, coordinator_role, coordinator_server}
use Rattle.scenario_nodes.specs.Opening.{HaveNoRecord, HoldSessions, ShowNoEntry, ShowNoRecord}
use Rattle.scenario_nodes.specs.Shelves.{pair_of}

-- nothing is in flight
unkept : {D : Type 0} (s : Sessions (Stoppable D)) (left : Left SessionRecord) (a b : List ℕ) → StandsForEither s left None a b → HoldSessions left.records a b
unkept s left a b (inl stands) = (managers_of s, resources_of s, stands)
unkept s left a b (inr (r, kept, stands)) = absurd (let no : None ≡ Some r = kept in cc)

module _ {D : Type 0} (state : D → DiskState) (shelf : ShelfState D) (s : Scenario) (managers resources : ℕ) (c : Coordinator D) (new : IsNewCoordinator state shelf s managers resources c) where
  unwritten : (held : Held) → Holds state shelf s (coordinator_server s held) → HaveNoRecord (coordinator_role s held) (pair_of state (coordinator_disks c))
  unwritten held holds = λ a b one two. unkept (sessions_of c) (sessions_left held.past.sessions []) a b ((new.stands held holds (new.told held holds)).1.disks.images a b one two)

  pub coordinator_shows : (held : Held) → ShowNoEntry state s shelf (coordinator_server s held) (coordinator_disks c)
  coordinator_shows held = (
    record { first = new.sized.first; second = new.sized.second },
    λ holds. let d = (lawful state c).device (coordinator_role s held) [] (new.stands held holds (new.told held holds)) in (record { images = d.images; counted = d.counted }, unwritten held holds),
  )

  pub coordinator_unwritten : (held : Held) → ShowNoRecord state s shelf (coordinator_server s held) (coordinator_disks c)
  coordinator_unwritten held = (record { first = new.sized.first; second = new.sized.second }, unwritten held)
