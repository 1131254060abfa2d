-- What one seat shows at the end of a run.
use Rattle.std.proofs.Common.{◌≡◌, ℕ, true, false, List, length, Option, Some, None, IfSome, option_map, refl, ap, sym, subst, ◌∙◌}
use Rattle.std.proofs.lemmas.Option.{same_Some}
use Rattle.disk_model.specs.Disk.{DiskState}
use Rattle.journal_checkpoint.specs.Extents.{Extent}
use Rattle.journal_checkpoint.specs.Images.{Pair}
use Rattle.seata_types.specs.declared.ids.Place.{Place}
use Rattle.seata_types.specs.declared.ids.Place.TheVariants as place
use Rattle.scenario_form.specs.declared.scenarios.Scenario.{Scenario}
use Rattle.history_rules.specs.Own.{Event, Given, Stopped, Crashed, Restarted, Own}
use Rattle.history_rules.specs.CoordinatorMemory.{start}
use Rattle.history_rules.specs.Devices.{is_down, last_pick}
use Rattle.history_rules.specs.ManagerRules.{Settings}
use Rattle.history_rules.specs.Nodes.{Past, Role, World, counted_at, role_at}
use Rattle.history_rules.specs.Nodes.{Coordinator as CoordinatorRole, Manager as ManagerRole, Resource as ResourceRole}
use Rattle.history_rules.specs.Histories.{Moment, own}
use Rattle.history_text.specs.Worlds.{times_of, world_of}
use Rattle.node_steps.specs.Durable.{AreNodeDisks}
use Rattle.node_steps.specs.Ends.{AreLaid, Starts}
use Rattle.node_steps.specs.Nodes.{NodeState, place_of}
use Rattle.node_steps.specs.Promises.{no_disks}
use Rattle.coordinator_core.specs.declared.nodes.Coordinator.{Coordinator}
use Rattle.coordinator_core.specs.Standing as coordinator
use Rattle.resource_core.specs.declared.nodes.Resource.{Resource}
use Rattle.resource_core.specs.NodeStanding as resource
use Rattle.resource_core.specs.Shown as shown
use Rattle.manager_core.specs.declared.nodes.Manager.{Manager}
use Rattle.manager_core.specs.Standing as manager
use Rattle.node_seat.specs.Entering.{HaveLast}
use Rattle.node_seat.specs.Faults.{Blames}
use Rattle.node_seat.specs.Keeping.{Keeps, have_disks}
use Rattle.node_seat.specs.Naming.{Run, run_over}
use Rattle.node_seat.specs.Running.{Came, HadPlaces, IsCauseOf, IsRunning, KeepsRun}
use Rattle.node_seat.specs.Seating.{Seated}
use Rattle.node_seat.specs.declared.faults.RunFault.{RunFault}
use Rattle.node_seat.specs.declared.faults.RunFault.TheVariants as fault
use Rattle.scenario_nodes.specs.Nodes.{HaveSize, Held, coordinator_disks, resource_disks}
use Rattle.scenario_nodes.specs.Shelves.{pair_of}
use Rattle.replay_runner.specs.Leaving.{AreLeft, OpensAgain}
use Rattle.replay_runner.proofs.Blamed.{blames_alike}
use Rattle.replay_runner.proofs.Roles.{from_map}
use Rattle.replay_runner.proofs.Shown.{coordinator_laid, coordinator_leaves, coordinator_opens, coordinator_shows, manager_laid, manager_opens, manager_role_is, resource_laid, resource_leaves, resource_opens, resource_shows}
use Rattle.run_ends.specs.Settled.{Shows}
use Rattle.run_ends.proofs.Nodes.{shows}
use Rattle.run_links.specs.Plans.{stops_of}
use Rattle.run_rounds.specs.Ending.{IsDone, IsOver}
use Rattle.thread_runner.specs.Ending.{ending_at}
use Rattle.thread_runner.specs.Ending.{Keeps as KeepsSeat}
use Rattle.thread_runner.specs.Seats.{IsNamedFor}
use Rattle.thread_runner.specs.Shown.{IsCauseAt, IsDoneAt, IsShown, KeepsOver}

-- ---- a seat of any node

-- what its disks show, by what the node stands for
pub record ShowsDisks (s : Scenario) (held : Held) (node : NodeState) (over : Type 0) (disks : Pair) : Type 0 where
  pub device : (role : Role) (owns : List Own) → node.stands_for role owns → AreNodeDisks role owns disks
  pub opens : (role : Role) (owns : List Own) → node.stands_for role owns → OpensAgain role owns disks
  pub left : (role : Role) (owns : List Own) → node.stands_for role owns → HaveLast (last_pick owns) node.disks → AreLeft role owns disks
  pub blames : (role : Role) (owns : List Own) → node.stands_for role owns → (now : ℕ) (event : Event) (missed : RunFault)
      → Blames node.place role (held.starts node.place) s.disk owns now event node.disks missed → Blames node.place role (held.starts node.place) s.disk owns now event disks missed
  pub laid : (role : Role) (owns : List Own) → node.stands_for role owns → node.lies role (held.starts node.place) s.disk owns → AreLaid role (held.starts node.place) s.disk owns disks
  pub done : over → (role : Role) (owns : List Own) → role_at (world_of s) held.past node.place ≡ Some role → node.stands_for role owns → IsDoneAt (world_of s) held.past node.place owns

-- what a run names over records is of the same scenario, and what a seat keeps it keeps over these
pub named_over : (world : World) (run : Run) (s : Scenario) → IsNamedFor world run s → (known : Type 0) (starts : Starts) → IsNamedFor world (run_over run known starts) s
named_over world run s named known starts = record { is_world = named.is_world; stops = named.stops; bytes = named.bytes; managers = named.managers; resources = named.resources }

pub keeps_over : {N : Type 0} (state : N → NodeState) (world : World) (held : Past → Starts → Type 0) (run : Run) (h : Held) (seat : Seated N) → KeepsSeat state world held run seat
    → KeepsOver state world h.past (run_over run (held h.past h.starts) h.starts) seat
keeps_over state world held run h seat k = record { seat = k.seat h.past h.starts; begun = k.begun; lawful = k.lawful }

module _ {D : Type 0} (state : D → DiskState) (s : Scenario) (held : Held) (run : Run) (named : IsNamedFor (world_of s) run s) (begins : run.starts ≡ held.starts) where
  module _ {N : Type 0} (node_state : N → NodeState) (seat : Seated N) (k : KeepsOver node_state (world_of s) held.past run seat) where
    pub running : IsRunning (node_state seat.node) held.past run seat
    running = k.seat.runs k.begun.runs

    module _ (tells : run.tells) (over : Type 0) (disks : Pair) (d : ShowsDisks s held (node_state seat.node) over disks) where
      abbrev at : Place
      at = (node_state seat.node).place

      -- with its moments
      module _ (role : Role) (known : role_at (world_of s) held.past (place_of role) ≡ Some role) (ms : List Moment) (keep : Keeps (node_state seat.node) seat.trace role ms)
          (links : KeepsRun (node_state seat.node) (start held.past.sessions) run role seat ms) where
        fit : Shows (node_state seat.node) (world_of s) held.past run seat role ms
        fit = shows (node_state seat.node) (world_of s) held.past run seat role ms k.lawful running known keep links

        named_here : role_at (world_of s) held.past at ≡ Some role
        named_here = ap (role_at (world_of s) held.past) fit.here ∙ known

        stands : (node_state seat.node).stands_for role (own at ms)
        stands = subst (λ p. (node_state seat.node).stands_for role (own p ms)) (sym fit.here) keep.stands

        with_role : (P : Role → Type 0) → P role → (r : Role) → role_at (world_of s) held.past at ≡ Some r → P r
        with_role P holds r e = subst P (same_Some role r (sym named_here ∙ e)) holds

        stops_here : seat.plan.stops ≡ stops_of s at
        stops_here = running.of_run.stops ∙ ap (λ f. f at) named.stops

        -- its journal stood where the disks had it
        from_start : (Q : Extent → ℕ → List Own → Type 0) → Q (run.starts (place_of role)) run.bytes (own (place_of role) ms) → Q (held.starts at) s.disk (own at ms)
        from_start Q holds =
            subst (λ p. Q (held.starts p) s.disk (own p ms)) (sym fit.here)
            (subst (λ n. Q (held.starts (place_of role)) n (own (place_of role) ms)) named.bytes
            (subst (λ x. Q x run.bytes (own (place_of role) ms)) (ap (λ f. f (place_of role)) begins) holds))

        stopped : (missed : RunFault) → IsCauseOf (node_state seat.node) run role seat ms missed → IsCauseAt s held disks (ending_at node_state seat) ms missed
        stopped fault.NoMemory cause = tt
        stopped fault.Other cause = record {
          plan = seat.plan;
          managers = running.of_run.managers ∙ named.managers;
          resources = running.of_run.resources ∙ named.resources;
          from = cause.from;
          packet = cause.packet;
          took = cause.took;
          unheard = cause.unheard;
        }
        stopped (fault.Store q) cause = record {
          role = role;
          known = named_here;
          now = cause.now;
          event = cause.event;
          came = subst (λ l. Came seat.takers l cause.event) stops_here cause.came;
          blames = d.blames role (own at ms) stands cause.now cause.event (fault.Store q)
              (from_start (λ start size os. Blames at role start size os cause.now cause.event (node_state seat.node).disks (fault.Store q)) cause.blames);
        }
        stopped (fault.Full q full) cause = record {
          role = role;
          known = named_here;
          now = cause.now;
          event = cause.event;
          came = subst (λ l. Came seat.takers l cause.event) stops_here cause.came;
          blames = d.blames role (own at ms) stands cause.now cause.event (fault.Full q full)
              (from_start (λ start size os. Blames at role start size os cause.now cause.event (node_state seat.node).disks (fault.Full q full)) cause.blames);
        }
        stopped (fault.Damaged q second offset) cause = absurd cause.blames

        is_shown : IsShown s held run over disks (ending_at node_state seat) ms
        is_shown = record {
          printed = keep.printed;
          fits = fit.fits;
          whole = λ calm. fit.whole calm (k.begun.turns calm);
          device = λ r e. with_role (λ x. AreNodeDisks x (own at ms) disks) (d.device role (own at ms) stands) r e;
          opens = λ r e. with_role (λ x. OpensAgain x (own at ms) disks) (d.opens role (own at ms) stands) r e;
          left = λ calm r e. with_role (λ x. AreLeft x (own at ms) disks)
              (d.left role (own at ms) stands (subst (λ p. HaveLast (last_pick (own p ms)) (node_state seat.node).disks) (sym fit.here) (links.calm calm).picked)) r e;
          places = λ r e. with_role (λ x. HadPlaces x (held.starts at) s.disk (own at ms)) (from_start (HadPlaces role) links.fits) r e;
          laid = λ calm r e. with_role (λ x. AreLaid x (held.starts at) s.disk (own at ms) disks)
              (d.laid role (own at ms) stands (from_start (λ start size os. (node_state seat.node).lies role start size os) (links.calm calm).lies)) r e;
          done = λ ended. d.done ended role (own at ms) named_here stands;
          cause = λ missed e. stopped missed (subst (λ f. IfSome f (IsCauseOf (node_state seat.node) run role seat ms)) e links.cause);
        }

      pub seat_shown : (ms : List Moment) × IsShown s held run over disks (ending_at node_state seat) ms
      seat_shown =
          let (role, known, some) = k.seat.keeps k.begun.runs in
          let (ms, keep, links) = some tells in
          (ms, is_shown role known ms keep (links k.begun.runs))

  -- ---- the coordinator

  module _ (seat : Seated (Coordinator D)) (k : KeepsOver (coordinator.node_state state) (world_of s) held.past run seat) where
    coordinator_sized : HaveSize s.disk (coordinator.disks_of state seat.node)
    coordinator_sized = let b = (running (coordinator.node_state state) seat k).of_run.sized refl in record { first = b.0 ∙ named.bytes; second = b.1 ∙ named.bytes }

    pub coordinator_has : HaveSize s.disk (pair_of state (coordinator_disks seat.node))
    coordinator_has = record { first = coordinator_sized.first; second = coordinator_sized.second }

    coordinator_blames : (role : Role) (owns : List Own) (now : ℕ) (event : Event) (missed : RunFault)
        → Blames place.Tc role (held.starts place.Tc) s.disk owns now event (coordinator.disks_of state seat.node) missed
        → Blames place.Tc role (held.starts place.Tc) s.disk owns now event (pair_of state (coordinator_disks seat.node)) missed
    coordinator_blames role owns now event missed b =
        blames_alike (coordinator.disks_of state seat.node) (pair_of state (coordinator_disks seat.node)) (record { first = λ a one. one; second = λ a two. two; faults = refl }) role (held.starts place.Tc) s.disk
        owns place.Tc now event missed b

    coordinator_done : IsOver state seat.node → (role : Role) (owns : List Own) → role_at (world_of s) held.past place.Tc ≡ Some role → coordinator.StandsAs state seat.node role owns
        → IsDoneAt (world_of s) held.past place.Tc owns
    coordinator_done ended role owns known stands = by (subst (λ r. coordinator.StandsAs state seat.node r owns) (sym (same_Some (CoordinatorRole (times_of s) held.past.sessions) role known)) stands)
      where
        downs : (r : Role) → coordinator.StandsAs state seat.node r owns → coordinator.is_down seat.node ≡ is_down owns
        downs r st = k.lawful.tells.downs r owns st

        by : coordinator.StandsAs state seat.node (CoordinatorRole (times_of s) held.past.sessions) owns → IsDoneAt (world_of s) held.past place.Tc owns
        by st = (sym (downs (CoordinatorRole (times_of s) held.past.sessions) st) ∙ ended.up, ended.sessions held.past.sessions owns st.1)

    pub coordinator_shown : run.tells → (over : Type 0) → (over → IsOver state seat.node)
        → (ms : List Moment) × IsShown s held run over (pair_of state (coordinator_disks seat.node)) (ending_at (coordinator.node_state state) seat) ms
    coordinator_shown tells over ends =
        seat_shown (coordinator.node_state state) seat k tells over (pair_of state (coordinator_disks seat.node)) (record {
          device = λ role owns st. coordinator_shows state seat.node role owns st;
          opens = λ role owns st. coordinator_opens state seat.node role owns st;
          left = λ role owns st last. coordinator_leaves state seat.node role owns st last;
          blames = λ role owns st now event missed b. coordinator_blames role owns now event missed b;
          laid = λ role owns st lies. coordinator_laid state seat.node role (held.starts place.Tc) s.disk owns st lies;
          done = λ ended role owns known st. coordinator_done (ends ended) role owns known st;
        })

  -- ---- a resource

  module _ (seat : Seated (Resource D)) (k : KeepsOver (resource.node_state state) (world_of s) held.past run seat) (n : ℕ) (here : shown.stands_at seat.node ≡ place.Res n) where
    resource_sized : HaveSize s.disk (shown.disks_of state seat.node)
    resource_sized =
        let b = subst (λ p. (have_disks p ≡ true) → (((shown.disks_of state seat.node).first.size ≡ run.bytes) × ((shown.disks_of state seat.node).second.size ≡ run.bytes))) here
        ((running (resource.node_state state) seat k).of_run.sized) refl in
        record { first = b.0 ∙ named.bytes; second = b.1 ∙ named.bytes }

    pub resource_has : HaveSize s.disk (pair_of state (resource_disks seat.node))
    resource_has = record { first = resource_sized.first; second = resource_sized.second }

    resource_blames : (role : Role) (owns : List Own) (now : ℕ) (event : Event) (missed : RunFault)
        → Blames (shown.stands_at seat.node) role (held.starts (shown.stands_at seat.node)) s.disk owns now event (shown.disks_of state seat.node) missed
        → Blames (shown.stands_at seat.node) role (held.starts (shown.stands_at seat.node)) s.disk owns now event (pair_of state (resource_disks seat.node)) missed
    resource_blames role owns now event missed b =
        blames_alike (shown.disks_of state seat.node) (pair_of state (resource_disks seat.node)) (record { first = λ a one. one; second = λ a two. two; faults = refl }) role
        (held.starts (shown.stands_at seat.node)) s.disk owns (shown.stands_at seat.node) now event missed b

    pub resource_shown : run.tells → (over : Type 0)
        → (ms : List Moment) × IsShown s held run over (pair_of state (resource_disks seat.node)) (ending_at (resource.node_state state) seat) ms
    resource_shown tells over =
        seat_shown (resource.node_state state) seat k tells over (pair_of state (resource_disks seat.node)) (record {
          device = λ role owns st. resource_shows state seat.node role owns st;
          opens = λ role owns st. resource_opens state seat.node role owns st;
          left = λ role owns st last. resource_leaves state seat.node role owns st last;
          blames = λ role owns st now event missed b. resource_blames role owns now event missed b;
          laid = λ role owns st lies. resource_laid state seat.node role (held.starts (shown.stands_at seat.node)) s.disk owns st lies;
          done = λ ended role owns known st. subst (λ p. IsDoneAt (world_of s) held.past p owns) (sym here) tt;
        })

  -- ---- a manager

  module _ (seat : Seated Manager) (k : KeepsOver manager.node_state (world_of s) held.past run seat) where
    manager_done : IsDone seat.node → (role : Role) (owns : List Own) → role_at (world_of s) held.past (place.Man (manager.settings seat.node).number) ≡ Some role → manager.StandsAs seat.node role owns
        → IsDoneAt (world_of s) held.past (place.Man (manager.settings seat.node).number) owns
    manager_done ended role owns known (same, stands) m at =
        let there : Some (ManagerRole m) ≡ Some role = ap (option_map (λ x. ManagerRole x)) (sym at) ∙ known in
        let is : ManagerRole m ≡ ManagerRole (manager.settings seat.node) = same_Some (ManagerRole m) role there ∙ same in
        let equal : m ≡ manager.settings seat.node = cc in
        subst (λ x. manager.is_finished x owns ≡ true) (sym equal) (ended owns stands)

    pub manager_shown : run.tells → (over : Type 0) → (over → IsDone seat.node)
        → (ms : List Moment) × IsShown s held run over no_disks (ending_at manager.node_state seat) ms
    manager_shown tells over ends =
        seat_shown manager.node_state seat k tells over no_disks (record {
          device = λ role owns st. (manager_role_is state seat.node role owns no_disks st).0;
          opens = λ role owns st. manager_opens state seat.node role owns no_disks st;
          left = λ role owns st last. (manager_role_is state seat.node role owns no_disks st).1;
          blames = λ role owns st now event missed b. b;
          laid = λ role owns st lies. manager_laid state seat.node role (held.starts (place.Man (manager.settings seat.node).number)) s.disk owns no_disks st;
          done = λ ended role owns known st. manager_done (ends ended) role owns known st;
        })
