-- The seats of a run after its rounds.
use Rattle.std.proofs.Common.{◌≡◌, ◌⊎◌, inl, inr, ◌+◌, ℕ, Bool, true, false, List, [], ◌∷◌, length, map, slice_get, Option, Some, None, IfSome, option_map, refl, ap, sym, subst, ◌∙◌}
use Rattle.std.proofs.lemmas.List.{length-map}
use Rattle.std.proofs.lemmas.Option.{same_Some, slice_get-map}
use Rattle.disk_model.specs.Disk.{DiskState}
use Rattle.scenario_form.specs.declared.scenarios.Scenario.{Scenario}
use Rattle.coordinator_core.specs.declared.nodes.Coordinator.{Coordinator}
use Rattle.coordinator_core.specs.Standing as coordinator
use Rattle.resource_core.specs.declared.nodes.Resource.{Resource}
use Rattle.resource_core.specs.NodeStanding as resource
use Rattle.manager_core.specs.declared.nodes.Manager.{Manager}
use Rattle.manager_core.specs.Standing as manager
use Rattle.node_steps.specs.Nodes.{NodeState}
use Rattle.node_seat.specs.Seating.{Seated}
use Rattle.node_seat.specs.declared.faults.RunFault.{RunFault}
use Rattle.replay_runner.proofs.Roles.{from_map}
use Rattle.run_rounds.specs.Ending.{HaveEnded, IsOverIn, fault_in, first_fault, least_fault}
use Rattle.run_rounds.specs.Seating.{StandAs, place_in, places_of}
use Rattle.run_rounds.specs.declared.seats.Seats.{Seats}
use Rattle.run_rounds.proofs.Places.{calm_each, fault_there, none_least, some_least}
use Rattle.thread_runner.specs.Ending.{all_here}
use Rattle.thread_runner.specs.Ready.{AreSeats}
use Rattle.thread_runner.specs.Seats.{ArePut, IsPutAt, numbered_place}
use Rattle.thread_runner.proofs.AtEnd.{Faulty, IsAllOver, OfCoordinator, OfManager, OfResource}
use Rattle.thread_runner.proofs.Lists.{at_here, here_at}
use Rattle.thread_runner.proofs.Places.{put_all, the_coordinator}

-- ---- as many, at the same places

put_again : {N : Type 0} (state : N → NodeState) (managers : Bool) (count : ℕ) (old new : List (Option (Seated N))) → places_of state new ≡ places_of state old
    → ArePut state managers count old → ArePut state managers count new
put_again state managers count old new same put = record {
  count = sym (length-map new (place_in state)) ∙ ap length same ∙ length-map old (place_in state) ∙ put.count;
  each = λ k seat e.
      let there = sym (slice_get-map (place_in state) old k) ∙ ap (λ l. slice_get l k) (sym same) ∙ slice_get-map (place_in state) new k ∙ ap (option_map (place_in state)) e in
      let (o, at, is) = from_map (place_in state) (slice_get old k) (place_in state seat) there in
      is ∙ put.each k o at;
}

pub seats_again : {D K : Type 0} (state : D → DiskState) (s : Scenario) (old new : Seats (Coordinator D) (Resource D) Manager K)
    → StandAs (coordinator.node_state state) (resource.node_state state) manager.node_state old new → AreSeats state s old → AreSeats state s new
seats_again state s old new same are = record {
  coordinator = same.coordinator_stands ∙ are.coordinator;
  resources = put_again (resource.node_state state) false (length s.resources) old.resources.items new.resources.items same.resources_stand are.resources;
  managers = put_again manager.node_state true (length s.managers) old.managers.items new.managers.items same.managers_stand are.managers;
}

-- ---- how they ended

module _ {D K : Type 0} (state : D → DiskState) (s : Scenario) (seats : Seats (Coordinator D) (Resource D) Manager K) (are : AreSeats state s seats) where
  abbrev c : Seated (Coordinator D)
  c = (the_coordinator state s seats are).0

  is_c : seats.coordinator ≡ Some c
  is_c = (the_coordinator state s seats are).1

  there_resource : (k : ℕ) (r : Seated (Resource D)) → slice_get (all_here seats.resources.items) k ≡ Some r → slice_get seats.resources.items k ≡ Some (Some r)
  there_resource = here_at seats.resources.items (put_all (resource.node_state state) false (length s.resources) seats.resources.items are.resources)

  there_manager : (k : ℕ) (m : Seated Manager) → slice_get (all_here seats.managers.items) k ≡ Some m → slice_get seats.managers.items k ≡ Some (Some m)
  there_manager = here_at seats.managers.items (put_all manager.node_state true (length s.managers) seats.managers.items are.managers)

  pub all_over : HaveEnded state seats → IsAllOver state c (all_here seats.resources.items) (all_here seats.managers.items)
  all_over ended =
      let none = none_least seats ended.calm in record {
        calm_coordinator = sym (ap fault_in is_c) ∙ none.0;
        calm_resources = λ k r e. calm_each seats.resources.items none.1 k r (there_resource k r e);
        calm_managers = λ k m e. calm_each seats.managers.items none.2 k m (there_manager k m e);
        over = subst (λ o. IfSome o (IsOverIn state)) is_c ended.over;
        done = λ k m e. ended.done k (Some m) (there_manager k m e);
      }

  pub is_faulty : (missed : RunFault) → least_fault seats ≡ Some missed → Faulty state c (all_here seats.resources.items) (all_here seats.managers.items) missed
  is_faulty missed e = by (some_least seats missed e)
    where
      by : (fault_in seats.coordinator ≡ Some missed) ⊎ ((first_fault seats.resources.items ≡ Some missed) ⊎ (first_fault seats.managers.items ≡ Some missed))
          → Faulty state c (all_here seats.resources.items) (all_here seats.managers.items) missed
      by (inl here) = OfCoordinator (sym (ap fault_in is_c) ∙ here)
      by (inr (inl here)) =
          let (k, r, at, is) = fault_there seats.resources.items missed here in
          OfResource k r (at_here seats.resources.items (put_all (resource.node_state state) false (length s.resources) seats.resources.items are.resources) k r at) is
      by (inr (inr here)) =
          let (k, m, at, is) = fault_there seats.managers.items missed here in
          OfManager k m (at_here seats.managers.items (put_all manager.node_state true (length s.managers) seats.managers.items are.managers) k m at) is
