-- What the disks that a run gives back show of it.
use Rattle.std.proofs.Common.{◌≡◌, ◌⊎◌, inl, inr, List, [], ◌∷◌, ◌++◌, map, Option, Some, None, Result, Ok, Err, refl, ap, sym, subst, ◌∙◌}
use Rattle.std.specs.List.{AllByRecursion}
use Rattle.disk_model.specs.Disk.{DiskState}
use Rattle.disk_model.specs.Shelf.{ShelfState}
use Rattle.scenario_form.specs.declared.scenarios.Scenario.{Scenario}
use Rattle.scenario_form.specs.Runnable.{IsRunnable}
use Rattle.history_rules.specs.Nodes.{World, Past}
use Rattle.history_law.specs.MessageSafety.{AreOfResources}
use Rattle.history_text.specs.declared.entries.Entry.{Entry}
use Rattle.history_text.specs.Worlds.{world_of}
use Rattle.node_steps.specs.Ends.{Starts}
use Rattle.coordinator_core.specs.declared.nodes.Coordinator.{Coordinator}
use Rattle.coordinator_core.specs.Standing as coordinator
use Rattle.resource_core.specs.declared.nodes.Resource.{Resource}
use Rattle.resource_core.specs.NodeStanding as resource
use Rattle.manager_core.specs.declared.nodes.Manager.{Manager}
use Rattle.manager_core.specs.Standing as manager
use Rattle.node_seat.specs.Naming.{Run, run_over}
use Rattle.node_seat.specs.Seating.{Seated}
use Rattle.node_seat.specs.declared.faults.RunFault.{RunFault}
use Rattle.node_seat.specs.declared.faults.RunFault.TheVariants as fault
use Rattle.scenario_nodes.specs.Nodes.{Held, coordinator_disks, none_held, resource_disks, server_names}
use Rattle.scenario_nodes.specs.Together.{GivesBack as GivesDisks}
use Rattle.replay_runner.specs.OnShelves.{Closes}
use Rattle.replay_runner.proofs.NewNodes.{held_named}
use Rattle.run_ends.specs.Ending.{trace_of}
use Rattle.run_ends.specs.Settled.{AreSettled}
use Rattle.run_rounds.specs.Ending.{HaveEnded, HaveStopped, least_fault}
use Rattle.run_rounds.specs.declared.seats.Seats.{Seats}
use Rattle.trace_merge.specs.Merges.{IsMerged}
use Rattle.thread_runner.specs.Ending.{AllKeep, Keeps, all_here, endings, here, node_of, seat_disks}
use Rattle.thread_runner.specs.Ready.{AreSeats}
use Rattle.thread_runner.specs.Running.{Leaves}
use Rattle.thread_runner.specs.Seats.{IsKnown, IsNamedFor, KnowsDisks}
use Rattle.thread_runner.specs.Shown.{KeepsOver}
use Rattle.thread_runner.proofs.AtEnd.{Faulty, IsAllOver, broken, completed, failure_counted, without_memory}
use Rattle.thread_runner.proofs.Lists.{all_each}
use Rattle.thread_runner.proofs.OneSeat.{keeps_over, named_over}
use Rattle.thread_runner.proofs.Places.{Plain, endings_are, is_plain, plain_endings, the_coordinator}
use Rattle.thread_runner.proofs.Rounded.{all_over, is_faulty}

-- what is known of the seats of a run once they were taken apart
pub record TakenApart {D K : Type 0} (state : D → DiskState) (s : Scenario) (held : Past → Starts → Type 0) (run : Run) (seats : Seats (Coordinator D) (Resource D) Manager K) (world : World) : Type 0 where
  pub named : IsNamedFor world run s
  pub keep : AllKeep state world held run seats
  pub settled : (past : Past) → AreSettled world past run.stops (endings state seats)

of_scenario : {D K : Type 0} (state : D → DiskState) (s : Scenario) (held : Past → Starts → Type 0) (run : Run) (seats : Seats (Coordinator D) (Resource D) Manager K) (world : World)
    → TakenApart state s held run seats world → TakenApart state s held run seats (world_of s)
of_scenario state s held run seats world t = subst (TakenApart state s held run seats) t.named.is_world t

module _ {D K : Type 0} (state : D → DiskState) (s : Scenario) (runs : IsRunnable s) (held : Past → Starts → Type 0) (run : Run) (shelf : ShelfState D) (knows : KnowsDisks state shelf s held run)
    (seats : Seats (Coordinator D) (Resource D) Manager K) (are : AreSeats state s seats) (world : World) (apart : TakenApart state s held run seats world) (old new : ShelfState D)
    (gives : GivesDisks (server_names s) (seat_disks seats) old new) where
  t : TakenApart state s held run seats (world_of s)
  t = of_scenario state s held run seats world apart

  abbrev c : Seated (Coordinator D)
  c = (the_coordinator state s seats are).0

  abbrev rs : List (Seated (Resource D))
  rs = all_here seats.resources.items

  abbrev ms : List (Seated Manager)
  ms = all_here seats.managers.items

  abbrev disks : List (D × D)
  disks = coordinator_disks c.node ∷ map (λ (r : Seated (Resource D)). resource_disks (node_of r)) rs

  given : GivesDisks (server_names s) disks old new
  given =
      subst (λ o. GivesDisks (server_names s) (map (λ (x : Seated (Coordinator D)). coordinator_disks (node_of x)) (here o) ++ map (λ (r : Seated (Resource D)). resource_disks (node_of r)) rs) old new)
      (the_coordinator state s seats are).1 gives

  plain : Plain state s c rs ms
  plain = is_plain state s seats are

  -- over records that the disks had
  module _ (h : Held) where
    abbrev over : Run
    over = run_over run (held h.past h.starts) h.starts

    named : IsNamedFor (world_of s) over s
    named = named_over (world_of s) run s t.named (held h.past h.starts) h.starts

    keep_c : KeepsOver (coordinator.node_state state) (world_of s) h.past over c
    keep_c =
        keeps_over (coordinator.node_state state) (world_of s) held run h c
        (subst (λ o. AllByRecursion (Keeps (coordinator.node_state state) (world_of s) held run) (here o)) (the_coordinator state s seats are).1 t.keep.coordinator).0

    keep_rs : AllByRecursion (KeepsOver (resource.node_state state) (world_of s) h.past over) rs
    keep_rs = all_each (Keeps (resource.node_state state) (world_of s) held run) (KeepsOver (resource.node_state state) (world_of s) h.past over) rs (keeps_over (resource.node_state state) (world_of s) held run h) t.keep.resources

    keep_ms : AllByRecursion (KeepsOver manager.node_state (world_of s) h.past over) ms
    keep_ms = all_each (Keeps manager.node_state (world_of s) held run) (KeepsOver manager.node_state (world_of s) h.past over) ms (keeps_over manager.node_state (world_of s) held run h) t.keep.managers

    settled : AreSettled (world_of s) h.past over.stops (plain_endings state c rs ms)
    settled = subst (AreSettled (world_of s) h.past run.stops) (endings_are state s seats are) (t.settled h.past)

    of : IsKnown held run h → AreOfResources (world_of s) h.past.sessions
    of known = held_named state shelf s h (knows.held_all h known.1)

  pub closes_without_memory : Closes (IsKnown held run) (Leaves s) state s old new (Err fault.NoMemory)
  closes_without_memory = record {
    disks = disks;
    gives = given;
    counted = tt;
    leaves = λ h known. without_memory state s h (over h) (named h) refl c rs ms plain (keep_c h) (keep_rs h) (keep_ms h) runs known (of h known) (settled h);
  }

  closes_broken : (missed : RunFault) → Faulty state c rs ms missed → Closes (IsKnown held run) (Leaves s) state s old new (Err missed)
  closes_broken missed f = record {
    disks = disks;
    gives = given;
    counted = failure_counted state s none_held (over none_held) (named none_held) refl c rs ms plain (keep_c none_held) (keep_rs none_held) (keep_ms none_held) missed f;
    leaves = λ h known. broken state s h (over h) (named h) refl c rs ms plain (keep_c h) (keep_rs h) (keep_ms h) runs known (of h known) (settled h) missed f;
  }

  -- the rounds ended early
  pub closes_stopped : (before : Seats (Coordinator D) (Resource D) Manager K) (missed : RunFault) → HaveStopped before seats missed → Closes (IsKnown held run) (Leaves s) state s old new (Err missed)
  closes_stopped before missed (inl least) = closes_broken missed (is_faulty state s seats are missed least)
  closes_stopped before missed (inr (is, same)) = subst (λ f. Closes (IsKnown held run) (Leaves s) state s old new (Err f)) (sym is) closes_without_memory

  -- the run ended
  pub closes_done : HaveEnded state seats → (traces : List (List Entry)) → traces ≡ map trace_of (endings state seats) → (es : List Entry) → IsMerged traces es
      → Closes (IsKnown held run) (Leaves s) state s old new (Ok es)
  closes_done ended traces are_traces es merged = record {
    disks = disks;
    gives = given;
    counted = tt;
    leaves = λ h known.
        completed state s h (over h) (named h) refl c rs ms plain (keep_c h) (keep_rs h) (keep_ms h) runs known (of h known) (settled h) (all_over state s seats are ended) es
        (subst (λ l. IsMerged l es) (are_traces ∙ ap (map trace_of) (endings_are state s seats are)) merged);
  }
