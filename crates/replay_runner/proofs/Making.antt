-- What a node did that an entry is made at is an entry among the nodes.
use Rattle.std.proofs.Common.{inl, inr, ◌≡◌, ◌⊎◌, ◌+◌, ◌-◌, ℕ, false, List, ◌∷◌, length, set, Option, Some, option_map, Result, Ok, Err, refl, ap, sym, subst, ◌∙◌}
use Rattle.std.proofs.lemmas.Option.{same_Some}
use Rattle.std.specs.Prelude.{Vec}
use Rattle.std.specs.declared.alloc.Global.{Global}
use Rattle.disk_model.specs.Disk.{DiskState}
use Rattle.journal_checkpoint.specs.Extents.{Extent}
use Rattle.journal_checkpoint.specs.Images.{Pair}
use Rattle.seata_types.specs.declared.ids.Place.{Place}
use Rattle.seata_types.specs.declared.ids.Place.TheVariants as place
use Rattle.seata_types.specs.declared.messages.Input.{Input}
use Rattle.seata_types.specs.declared.messages.Step.{Step}
use Rattle.history_rules.specs.Own.{Event, Given, Stopped, Crashed, Restarted, Own}
use Rattle.history_rules.specs.ManagerRules.{Settings}
use Rattle.history_rules.specs.Nodes.{ComesTo, counted_at}
use Rattle.history_rules.specs.Nodes.{Manager as ManagerRole}
use Rattle.history_rules.specs.Histories.{Moment, own, same_place}
use Rattle.history_text.specs.declared.entries.Cause.{Cause}
use Rattle.history_text.specs.History.{cause_of}
use Rattle.node_steps.specs.Nodes.{NodeState}
use Rattle.node_steps.specs.Promises.{StaysItself, no_disks}
use Rattle.coordinator_core.specs.declared.nodes.Coordinator.{Coordinator}
use Rattle.coordinator_core.specs.Standing as coordinator
use Rattle.resource_core.specs.declared.nodes.Resource.{Resource}
use Rattle.resource_core.specs.NodeStanding as resource
use Rattle.resource_core.specs.Shown as shown
use Rattle.manager_core.specs.declared.nodes.Manager.{Manager}
use Rattle.manager_core.specs.Standing as manager
use Rattle.node_seat.specs.Entering.{IsTold, event_by}
use Rattle.node_seat.specs.Faults.{Blames}
use Rattle.node_seat.specs.declared.faults.RunFault.{RunFault}
use Rattle.node_seat.specs.declared.faults.RunFault.TheVariants as fault
use Rattle.node_seat.proofs.Kept.{lies_for, told_all}
use Rattle.scenario_nodes.specs.Nodes.{HaveSize}
use Rattle.replay_runner.specs.declared.members.Member.{Member}
use Rattle.replay_runner.specs.declared.messages.Letter.{Letter}
use Rattle.replay_runner.specs.declared.nodes.Nodes.{Nodes}
use Rattle.replay_runner.specs.Entering.{Comes, Entered, moment_by}
use Rattle.replay_runner.specs.Letters.{letter_from}
use Rattle.replay_runner.specs.Members.{IsMade, IsMember, Makes}
use Rattle.replay_runner.specs.Standing.{AllStand, AreNodes, IsServer, disks_at, member_disks}
use Rattle.replay_runner.proofs.Entered.{member_enters, member_happens, member_stands, nodes_coordinator, nodes_manager, nodes_resource, own_there, server_enters, stand_coordinator, stand_manager, stand_resource, with_coordinator, with_managers, with_resources}
use Rattle.replay_runner.proofs.Counted.{counted_set}
use Rattle.replay_runner.proofs.Roles.{at_manager}

-- why no entry was made at a place: want of memory, or what the node there is blamed for
abbrev Missed : {D K : Type 0} → {state : D → DiskState} → {old : Nodes D K} → {stamp : ℕ} → {printed : Cause} → {given : Option Input} → (p : Place) (now : ℕ) → Comes state old stamp p printed given
    → (disks : Pair) → RunFault → Type 0
Missed p now c disks missed = (missed ≡ fault.NoMemory) ⊎ Blames p c.role (c.held.starts p) c.s.disk (own p c.ms) now c.event disks missed

-- ---- a node of any kind

module _ {N D K : Type 0} (state : D → DiskState) (node_state : N → NodeState) (old new : Nodes D K) (before after : Member N K) (stamp now : ℕ) (p : Place) (printed : Cause) (given : Option Input)
    (c : Comes state old stamp p printed given) (here : (node_state before.seat.node).place ≡ p) (stood : (node_state before.seat.node).stands_for c.role (own p c.ms))
    (lies : (node_state before.seat.node).lies c.role (c.held.starts p) c.s.disk (own p c.ms)) (told : IsTold (node_state before.seat.node).disks c.event)
    (entered : (step : Step) (letter : Option Letter) → Makes node_state before after (length c.ms + 1) now (cause_of c.why) c.event step (Ok letter) → AreNodes state c.s c.held new (moment_by p now c step ∷ c.ms))
    (stand : (os : List Moment) → ((q : Place) → same_place q p ≡ false → own q os ≡ own q c.ms) → (node_state after.seat.node).stands_for c.role (own p os) → AllStand state c.s c.held new os)
    (missed_by : (missed : RunFault) → Blames p c.role (c.held.starts p) c.s.disk (own p c.ms) now c.event (node_state after.seat.node).disks missed → Missed p now c (disks_at state new p) missed) where
  entered_by : (r : Result (Option Letter) RunFault) → IsMade node_state before after (length c.ms + 1) now (cause_of c.why) c.event r → Entered state old new stamp now p printed given c r
  entered_by (Ok letter) (step, e) = record {
    step = step;
    happens = member_happens node_state p c.role before after c.ms now c.why c.event step (Ok letter) stood told e;
    fits = (e.does.lies told c.role (own p c.ms) stood (c.held.starts p) c.s.disk lies).0;
    nodes = entered step letter e;
    sent = e.sent ∙ ap (λ q. option_map (letter_from q (length c.ms + 1)) step.sent) here;
  }
  entered_by (Err missed) (inl e) = inl (record {
    stands = stand c.ms (λ q away. refl) (e.misses.stands told c.role (own p c.ms) stood);
    cause = missed_by missed
        (subst (λ q. Blames q c.role (c.held.starts p) c.s.disk (own p c.ms) now c.event (node_state after.seat.node).disks missed) here
        (e.misses.blames told c.role (c.held.starts p) c.s.disk (own p c.ms) stood (lies_for missed (node_state before.seat.node) c.role (c.held.starts p) c.s.disk (own p c.ms) lies)));
  })
  entered_by (Err missed) (inr (is, step, e)) = inr (record {
    memory = is;
    step = step;
    happens = member_happens node_state p c.role before after c.ms now c.why c.event step (Err missed) stood told e;
    fits = (e.does.lies told c.role (own p c.ms) stood (c.held.starts p) c.s.disk lies).0;
    stands = stand (moment_by p now c step ∷ c.ms) (λ q away. own_there q (moment_by p now c step) c.ms away)
        (member_stands node_state p c.role before after c.ms now c.why c.event step (Err missed) stood told e);
  })

  entered_as : (r : Result (Option Letter) RunFault) → IsMade node_state before after stamp now printed c.event r → Entered state old new stamp now p printed given c r
  entered_as r made =
      entered_by r
      (subst (λ n. IsMade node_state before after n now (cause_of c.why) c.event r) c.stamped
      (subst (λ w. IsMade node_state before after stamp now w c.event r) c.is_printed made))

-- ---- the coordinator

module _ {D K : Type 0} (state : D → DiskState) (old : Nodes D K) (after : Member (Coordinator D) K) (stamp now : ℕ) (printed : Cause) (given : Option Input)
    (same : StaysItself (coordinator.node_state state old.coordinator.seat.node) (coordinator.node_state state after.seat.node)) (r : Result (Option Letter) RunFault) where
  abbrev CoordinatorMade : Event → Type 0
  CoordinatorMade event = IsMade (coordinator.node_state state) old.coordinator after stamp now printed event r

  coordinator_here : (c : Comes state old stamp place.Tc printed given) → CoordinatorMade c.event → Entered state old (with_coordinator old after) stamp now place.Tc printed given c r
  coordinator_here c made =
      let is : IsServer (coordinator.node_state state) place.Tc c.role (c.held.starts place.Tc) c.s.disk old.coordinator c.ms = c.nodes.each place.Tc c.role c.there in
      let sized : HaveSize c.s.disk (coordinator.disks_of state after.seat.node) = record { first = same.first.size ∙ is.sized.first; second = same.second.size ∙ is.sized.second } in
      entered_as state (coordinator.node_state state) old (with_coordinator old after) old.coordinator after stamp now place.Tc printed given c
      refl is.member.stands is.lies (told_all (coordinator.disks_of state old.coordinator.seat.node) c.event is.told)
      (λ step letter e. nodes_coordinator state c.s c.held old after c.role c.there c.ms (moment_by place.Tc now c step) refl c.nodes
      (server_enters (coordinator.node_state state) place.Tc c.role (c.held.starts place.Tc) c.s.disk old.coordinator after c.ms now c.why c.event step letter is refl same e))
      (λ os elsewhere stands. stand_coordinator state c.s c.held old after c.role c.there c.ms os elsewhere c.nodes (record { stands = stands; sized = sized }))
      (λ missed b. inr b) r made

  pub entered_coordinator : (p : Place) → p ≡ place.Tc → ((event : Event) → event_by printed given ≡ Some event → CoordinatorMade event)
      → (c : Comes state old stamp p printed given) → Entered state old (with_coordinator old after) stamp now p printed given c r
  entered_coordinator p here made =
      subst (λ q. (c : Comes state old stamp q printed given) → Entered state old (with_coordinator old after) stamp now q printed given c r) (sym here)
      (λ c. coordinator_here c (made c.event c.is_event))

-- ---- a resource

module _ {D K : Type 0} (state : D → DiskState) (old : Nodes D K) (n : ℕ) (before after : Member (Resource D) K) (resources : Vec (Member (Resource D) K) Global) (stamp now : ℕ) (printed : Cause) (given : Option Input)
    (placed : counted_at old.resources.items n ≡ Some before) (changed : resources.items ≡ set old.resources.items (n - 1) after) (stands_here : shown.stands_at before.seat.node ≡ place.Res n)
    (same : StaysItself (resource.node_state state before.seat.node) (resource.node_state state after.seat.node)) (r : Result (Option Letter) RunFault) where
  abbrev ResourceMade : Event → Type 0
  ResourceMade event = IsMade (resource.node_state state) before after stamp now printed event r

  resource_here : (c : Comes state old stamp (place.Res n) printed given) → ResourceMade c.event → Entered state old (with_resources old resources) stamp now (place.Res n) printed given c r
  resource_here c made =
      let (x, found, kept) = c.nodes.each (place.Res n) c.role c.there in
      let is : IsServer (resource.node_state state) (place.Res n) c.role (c.held.starts (place.Res n)) c.s.disk before c.ms =
      subst (λ (m : Member (Resource D) K). IsServer (resource.node_state state) (place.Res n) c.role (c.held.starts (place.Res n)) c.s.disk m c.ms) (same_Some x before (sym found ∙ placed)) kept in
      let sized : HaveSize c.s.disk (shown.disks_of state after.seat.node) = record { first = same.first.size ∙ is.sized.first; second = same.second.size ∙ is.sized.second } in
      let there : counted_at resources.items n ≡ Some after = ap (λ l. counted_at l n) changed ∙ counted_set old.resources.items n after before placed in
      entered_as state (resource.node_state state) old (with_resources old resources) before after stamp now (place.Res n) printed given c
      stands_here is.member.stands is.lies (told_all (shown.disks_of state before.seat.node) c.event is.told)
      (λ step letter e. nodes_resource state c.s c.held old n before after resources placed changed c.role c.there c.ms (moment_by (place.Res n) now c step) refl c.nodes
      (server_enters (resource.node_state state) (place.Res n) c.role (c.held.starts (place.Res n)) c.s.disk before after c.ms now c.why c.event step letter is stands_here same e))
      (λ os elsewhere stands. stand_resource state c.s c.held old n before after resources placed changed c.role c.there c.ms os elsewhere c.nodes (record { stands = stands; sized = sized }))
      (λ missed b. inr (subst (λ (o : Option (Member (Resource D) K)). Blames (place.Res n) c.role (c.held.starts (place.Res n)) c.s.disk (own (place.Res n) c.ms) now c.event (member_disks state o) missed) (sym there) b)) r made

  pub entered_resource : (p : Place) → p ≡ place.Res n → ((event : Event) → event_by printed given ≡ Some event → ResourceMade event)
      → (c : Comes state old stamp p printed given) → Entered state old (with_resources old resources) stamp now p printed given c r
  entered_resource p here made =
      subst (λ q. (c : Comes state old stamp q printed given) → Entered state old (with_resources old resources) stamp now q printed given c r) (sym here)
      (λ c. resource_here c (made c.event c.is_event))

-- ---- a manager

-- what happens to a manager is always told
manager_told : (m : Settings) (disks : Pair) (event : Event) → ComesTo (ManagerRole m) event → IsTold disks event
manager_told m disks (Given given) fits = tt
manager_told m disks (Stopped calls) fits = tt
manager_told m disks Crashed fits = tt
manager_told m disks (Restarted pick calls) fits = absurd fits

-- it makes no entry for want of memory alone
only_memory : (m : Settings) (at : Place) (start : Extent) (size : ℕ) (owns : List Own) (now : ℕ) (event : Event) (disks : Pair) (missed : RunFault) → ComesTo (ManagerRole m) event
    → Blames at (ManagerRole m) start size owns now event disks missed → missed ≡ fault.NoMemory
only_memory m at start size owns now (Given given) disks (fault.Store q) fits b = absurd b.2
only_memory m at start size owns now (Given given) disks (fault.Full q full) fits b = absurd b.1.1.by_entries
only_memory m at start size owns now (Given given) disks (fault.Damaged q second offset) fits b = absurd b
only_memory m at start size owns now (Given given) disks fault.Other fits b = absurd b
only_memory m at start size owns now (Given given) disks fault.NoMemory fits b = refl
only_memory m at start size owns now (Stopped calls) disks missed fits b = absurd fits
only_memory m at start size owns now Crashed disks missed fits b = absurd fits
only_memory m at start size owns now (Restarted pick calls) disks missed fits b = absurd fits

module _ {D K : Type 0} (state : D → DiskState) (old : Nodes D K) (n : ℕ) (before after : Member Manager K) (managers : Vec (Member Manager K) Global) (stamp now : ℕ) (printed : Cause) (given : Option Input)
    (placed : counted_at old.managers.items n ≡ Some before) (changed : managers.items ≡ set old.managers.items (n - 1) after) (stands_here : (manager.node_state before.seat.node).place ≡ place.Man n) (r : Result (Option Letter) RunFault) where
  abbrev ManagerMade : Event → Type 0
  ManagerMade event = IsMade manager.node_state before after stamp now printed event r

  manager_here : (c : Comes state old stamp (place.Man n) printed given) → ManagerMade c.event → Entered state old (with_managers old managers) stamp now (place.Man n) printed given c r
  manager_here c made =
      let (x, found, kept) = c.nodes.each (place.Man n) c.role c.there in
      let is : IsMember manager.node_state (place.Man n) c.role before c.ms = subst (λ (m : Member Manager K). IsMember manager.node_state (place.Man n) c.role m c.ms) (same_Some x before (sym found ∙ placed)) kept in
      let (settings, listed, role_is) = at_manager c.s c.held.past n c.role c.there in
      let fits : ComesTo (ManagerRole settings) c.event = subst (λ role. ComesTo role c.event) role_is c.fits in
      let told : IsTold no_disks c.event = manager_told settings no_disks c.event fits in
      entered_as state manager.node_state old (with_managers old managers) before after stamp now (place.Man n) printed given c
      stands_here is.stands tt told
      (λ step letter e. nodes_manager state c.s c.held old n before after managers placed changed c.role c.there c.ms (moment_by (place.Man n) now c step) refl c.nodes
      (member_enters manager.node_state (place.Man n) c.role before after c.ms now c.why c.event step letter is stands_here told e))
      (λ os elsewhere stands. stand_manager state c.s c.held old n before after managers placed changed c.role c.there c.ms os elsewhere c.nodes stands)
      (λ missed b. inl (only_memory settings (place.Man n) (c.held.starts (place.Man n)) c.s.disk (own (place.Man n) c.ms) now c.event no_disks missed fits
      (subst (λ role. Blames (place.Man n) role (c.held.starts (place.Man n)) c.s.disk (own (place.Man n) c.ms) now c.event no_disks missed) role_is b)))
      r made

  pub entered_manager : (p : Place) → p ≡ place.Man n → ((event : Event) → event_by printed given ≡ Some event → ManagerMade event)
      → (c : Comes state old stamp p printed given) → Entered state old (with_managers old managers) stamp now p printed given c r
  entered_manager p here made =
      subst (λ q. (c : Comes state old stamp q printed given) → Entered state old (with_managers old managers) stamp now q printed given c r) (sym here)
      (λ c. manager_here c (made c.event c.is_event))
