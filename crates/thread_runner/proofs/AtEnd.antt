-- What all seats of a run show at its end.
use Rattle.std.proofs.Common.{◌≡◌, ◌⊎◌, inl, inr, ◌+◌, ◌<◌, ◌≤◌, ℕ, zero, suc, true, false, List, [], ◌∷◌, ◌++◌, length, map, slice_get, Option, Some, None, IfSome, option_map, Ok, Err, refl, ap, sym, subst, ◌∙◌, arith, add-one, true≢false}
use Rattle.std.proofs.lemmas.List.{length-map}
use Rattle.std.proofs.lemmas.Option.{same_Some, slice_get-map}
use Rattle.std.specs.List.{AllByRecursion}
use Rattle.disk_model.specs.Disk.{DiskState}
use Rattle.journal_checkpoint.specs.Images.{Pair}
use Rattle.seata_types.specs.declared.ids.Place.{Place}
use Rattle.seata_types.specs.declared.ids.Place.TheVariants as place
use Rattle.seata_types.specs.declared.messages.Input.TheVariants as input
use Rattle.durable_records.specs.Members.{In}
use Rattle.scenario_form.specs.declared.scenarios.Scenario.{Scenario}
use Rattle.scenario_form.specs.Runnable.{IsRunnable}
use Rattle.history_rules.specs.Own.{Event, Given, Stopped, Crashed, Restarted, Own}
use Rattle.history_rules.specs.Nodes.{Role, counted_at, role_at}
use Rattle.history_rules.specs.Nodes.{Manager as ManagerRole}
use Rattle.history_rules.specs.Histories.{Moment, own}
use Rattle.history_rules.specs.ManagerRules.{Settings}
use Rattle.history_law.specs.MessageSafety.{AreOfResources}
use Rattle.history_text.specs.declared.entries.Entry.{Entry}
use Rattle.history_text.specs.History.{entries}
use Rattle.history_text.specs.Worlds.{times_of, world_of}
use Rattle.node_steps.specs.Durable.{AreNodeDisks, own_faults}
use Rattle.node_steps.specs.Ends.{AreLaid}
use Rattle.node_steps.specs.Nodes.{NodeState}
use Rattle.node_steps.specs.Promises.{no_disks}
use Rattle.coordinator_core.specs.declared.nodes.Coordinator.{Coordinator}
use Rattle.coordinator_core.specs.Standing as coordinator
use Rattle.resource_core.specs.declared.nodes.Resource.{Resource}
use Rattle.resource_core.specs.NodeStanding as resource
use Rattle.manager_core.specs.declared.nodes.Manager.{Manager}
use Rattle.manager_core.specs.Standing as manager
use Rattle.trace_rules.specs.Links.{sent_to, with_stamp}
use Rattle.trace_rules.specs.Traces.{at}
use Rattle.trace_rules.specs.Runs.{FollowsRun, IsBrokenRun}
use Rattle.trace_rules.specs.Settling.{EndedNode, FitsBroken, FitsRun, history_of}
use Rattle.trace_merge.specs.Merges.{IsMerged}
use Rattle.node_seat.specs.Faults.{Blames}
use Rattle.node_seat.specs.Naming.{Run}
use Rattle.node_seat.specs.Running.{Came, HadPlaces, HasCounted, may_hear}
use Rattle.node_seat.specs.Seating.{Seated}
use Rattle.node_seat.specs.declared.faults.RunFault.{RunFault}
use Rattle.node_seat.specs.declared.faults.RunFault.TheVariants as fault
use Rattle.scenario_nodes.specs.Nodes.{HaveSize, Held, coordinator_disks, resource_disks}
use Rattle.scenario_nodes.specs.Shelves.{pair_of}
use Rattle.replay_runner.specs.Leaving.{AllOpenAgain, AreLeft, CountsFailure, HavePlaces, HaveSizes, OpensAgain, disks_in, nth_pair}
use Rattle.replay_runner.proofs.Lists.{member_at}
use Rattle.replay_runner.proofs.Safe.{run_is_safe}
use Rattle.replay_runner.proofs.Shown.{nth_map}
use Rattle.run_ends.specs.Ending.{Ending, trace_of}
use Rattle.run_ends.specs.Settled.{AreNodesWith, AreSettled, IsOneHistory, IsPrinted}
use Rattle.run_ends.specs.Settled.{node_of as ended_node}
use Rattle.run_ends.proofs.Nodes.{chosen, ending_in, node_in, took_sent, with_weaker}
use Rattle.run_links.specs.Plans.{stops_of}
use Rattle.run_rounds.specs.Ending.{IsDone, IsOver}
use Rattle.thread_runner.specs.Ending.{ending_at, node_of}
use Rattle.thread_runner.specs.Running.{Broken, Completed, HasEnded, IsCause, MayCome, StopsAt}
use Rattle.thread_runner.specs.Seats.{IsNamedFor}
use Rattle.thread_runner.specs.Shown.{IsCauseAt, IsDoneAt, IsShown, IsStopped, IsUnanswered, KeepsOver}
use Rattle.thread_runner.proofs.Lists.{all_at}
use Rattle.thread_runner.proofs.Fitting.{all_fit}
use Rattle.thread_runner.proofs.Messages.{sent_heard}
use Rattle.thread_runner.proofs.OneSeat.{coordinator_has, coordinator_shown, manager_shown, resource_has, resource_shown, running}
use Rattle.thread_runner.proofs.Places.{AtCoordinator, AtManager, AtResource, Plain, Where, are_of_run, find_where, manager_among, plain_endings, resource_among}

-- ---- how the rounds ended, in order of places

module _ {D : Type 0} (state : D → DiskState) (c : Seated (Coordinator D)) (rs : List (Seated (Resource D))) (ms : List (Seated Manager)) where
  -- the run is over, and no seat answered a fault
  pub record IsAllOver : Type 0 where
    pub calm_coordinator : c.fault ≡ None
    pub calm_resources : (k : ℕ) (r : Seated (Resource D)) → slice_get rs k ≡ Some r → r.fault ≡ None
    pub calm_managers : (k : ℕ) (m : Seated Manager) → slice_get ms k ≡ Some m → m.fault ≡ None
    pub over : IsOver state c.node
    pub done : (k : ℕ) (m : Seated Manager) → slice_get ms k ≡ Some m → IsDone m.node

  -- one of them answered a fault
  pub data Faulty (missed : RunFault) : Type 0 where
    OfCoordinator : c.fault ≡ Some missed → Faulty missed
    OfResource : (k : ℕ) (r : Seated (Resource D)) → slice_get rs k ≡ Some r → r.fault ≡ Some missed → Faulty missed
    OfManager : (k : ℕ) (m : Seated Manager) → slice_get ms k ≡ Some m → m.fault ≡ Some missed → Faulty missed

module _ {D : Type 0} (state : D → DiskState) (s : Scenario) (held : Held) (run : Run) (named : IsNamedFor (world_of s) run s) (begins : run.starts ≡ held.starts)
    (c : Seated (Coordinator D)) (rs : List (Seated (Resource D))) (ms : List (Seated Manager)) (plain : Plain state s c rs ms)
    (keep_c : KeepsOver (coordinator.node_state state) (world_of s) held.past run c)
    (keep_rs : AllByRecursion (KeepsOver (resource.node_state state) (world_of s) held.past run) rs)
    (keep_ms : AllByRecursion (KeepsOver manager.node_state (world_of s) held.past run) ms) where
  abbrev all : List Ending
  all = plain_endings state c rs ms

  abbrev disks : List (D × D)
  disks = coordinator_disks c.node ∷ map (λ (r : Seated (Resource D)). resource_disks (node_of r)) rs

  abbrev pairs : List Pair
  pairs = map (pair_of state) disks

  keep_resource : (k : ℕ) (r : Seated (Resource D)) → slice_get rs k ≡ Some r → KeepsOver (resource.node_state state) (world_of s) held.past run r
  keep_resource k r e = all_at (KeepsOver (resource.node_state state) (world_of s) held.past run) rs k r keep_rs e

  keep_manager : (k : ℕ) (m : Seated Manager) → slice_get ms k ≡ Some m → KeepsOver manager.node_state (world_of s) held.past run m
  keep_manager k m e = all_at (KeepsOver manager.node_state (world_of s) held.past run) ms k m keep_ms e

  -- ---- disks

  next_pair : (k : ℕ) (r : Seated (Resource D)) → slice_get rs k ≡ Some r → nth_pair pairs (suc k) ≡ pair_of state (resource_disks r.node)
  next_pair k r e =
      nth_map state (map (λ (x : Seated (Resource D)). resource_disks (node_of x)) rs) k (resource_disks r.node)
      (slice_get-map (λ (x : Seated (Resource D)). resource_disks (node_of x)) rs k ∙ ap (option_map (λ (x : Seated (Resource D)). resource_disks (node_of x))) e)

  resource_pair : (k : ℕ) (r : Seated (Resource D)) → slice_get rs k ≡ Some r → disks_in pairs (resource.node_state state r.node).place ≡ pair_of state (resource_disks r.node)
  resource_pair k r e =
      ap (disks_in pairs) (plain.resources k r e ∙ ap place.Res (let same : k + 1 ≡ suc k = omega arith in same)) ∙ next_pair k r e

  manager_pair : (k : ℕ) (m : Seated Manager) → slice_get ms k ≡ Some m → disks_in pairs (manager.node_state m.node).place ≡ no_disks
  manager_pair k m e = refl

  pub sized : HaveSizes s pairs
  sized zero below = coordinator_has state s held run named begins c keep_c
  sized (suc k) below =
      let one = length-map disks (pair_of state) in
      let two = length-map rs (λ (x : Seated (Resource D)). resource_disks (node_of x)) in
      let (r, e) = member_at rs k (omega (arith, below, one, two)) in
      subst (HaveSize s.disk) (sym (next_pair k r e)) (resource_has state s held run named begins r (keep_resource k r e) (k + 1) (plain.resources k r e))

  pub count : length pairs ≡ length s.resources + 1
  count =
      let one = length-map disks (pair_of state) in
      let two = length-map rs (λ (x : Seated (Resource D)). resource_disks (node_of x)) in
      let three = plain.resource_count in
      omega (arith, one, two, three)

  -- those that failed counted a fault, whatever they tell
  counts : (node : NodeState) (shown : Pair) → disks_in pairs node.place ≡ shown → own_faults shown ≡ own_faults node.disks → (missed : RunFault) → HasCounted node missed → CountsFailure pairs (Err missed)
  counts node shown here same (fault.Store q) (at, some) =
      subst (λ p. 1 ≤ own_faults (disks_in pairs p)) (sym at) (subst (λ d. 1 ≤ own_faults d) (sym here) (subst (λ n. 1 ≤ n) (sym same) some))
  counts node shown here same (fault.Full q full) has = tt
  counts node shown here same (fault.Damaged q second offset) has = tt
  counts node shown here same fault.Other has = tt
  counts node shown here same fault.NoMemory has = tt

  pub failure_counted : (missed : RunFault) → Faulty state c rs ms missed → CountsFailure pairs (Err missed)
  failure_counted missed (OfCoordinator e) =
      counts (coordinator.node_state state c.node) (pair_of state (coordinator_disks c.node)) refl refl missed
      (subst (λ f. IfSome f (HasCounted (coordinator.node_state state c.node))) e (running state s held run named begins (coordinator.node_state state) c keep_c).counted)
  failure_counted missed (OfResource k r at e) =
      counts (resource.node_state state r.node) (pair_of state (resource_disks r.node)) (resource_pair k r at) refl missed
      (subst (λ f. IfSome f (HasCounted (resource.node_state state r.node))) e (running state s held run named begins (resource.node_state state) r (keep_resource k r at)).counted)
  failure_counted missed (OfManager k m at e) =
      counts (manager.node_state m.node) no_disks refl refl missed
      (subst (λ f. IfSome f (HasCounted (manager.node_state m.node))) e (running state s held run named begins manager.node_state m (keep_manager k m at)).counted)

  -- ---- where disks tell

  module _ (runs : IsRunnable s) (tells : run.tells) (of : AreOfResources (world_of s) held.past.sessions) (settled : AreSettled (world_of s) held.past run.stops all) where
    abbrev over : Type 0
    over = IsAllOver state c rs ms

    abbrev P : Ending → List Moment → Type 0
    P e l = IsShown s held run over (disks_in pairs e.place) e l

    with_pair : (e : Ending) (d : Pair) → disks_in pairs e.place ≡ d → (l : List Moment) × IsShown s held run over d e l → (l : List Moment) × P e l
    with_pair e d is (l, shown) = (l, subst (λ x. IsShown s held run over x e l) (sym is) shown)

    each_shown : (e : Ending) → In e all → (l : List Moment) × P e l
    each_shown e h = by (find_where state s c rs ms plain e h)
      where
        by : Where state s c rs ms plain e → (l : List Moment) × P e l
        by (AtCoordinator is) =
            subst (λ x. (l : List Moment) × P x l) (sym is) (coordinator_shown state s held run named begins c keep_c tells over (λ o. o.over))
        by (AtResource k r at is) =
            subst (λ x. (l : List Moment) × P x l) (sym is)
            (with_pair (ending_at (resource.node_state state) r) (pair_of state (resource_disks r.node)) (resource_pair k r at)
            (resource_shown state s held run named begins r (keep_resource k r at) (k + 1) (plain.resources k r at) tells over))
        by (AtManager k m at is) =
            subst (λ x. (l : List Moment) × P x l) (sym is) (manager_shown state s held run named begins m (keep_manager k m at) tells over (λ o. o.done k m at))

    abbrev nodes : List EndedNode
    nodes = (chosen P all each_shown).0

    with_nodes : AreNodesWith P all nodes
    with_nodes = (chosen P all each_shown).1

    one : IsOneHistory (world_of s) held.past run.stops (map trace_of all) nodes
    one =
        settled nodes (with_weaker P IsPrinted (λ e l p. p.printed) all nodes with_nodes)
        (λ n h. let (e, i, is, p) = node_in P all nodes with_nodes n h in subst (FitsBroken (world_of s) held.past run.stops) (sym is) p.fits)

    abbrev history : List Moment
    history = history_of nodes

    -- a node with its moments, in this history
    record InHistory (e : Ending) : Type 0 where
      node : EndedNode
      among : In node nodes
      is : node ≡ ended_node e node.moments
      shown : P e node.moments
      owns : own e.place history ≡ own e.place node.moments

    in_history : (e : Ending) → In e all → InHistory e
    in_history e h =
        let (n, i, is, p) = ending_in P all nodes with_nodes e h in
        let here : n.place ≡ e.place = ap (λ (x : EndedNode). x.place) is in
        record { node = n; among = i; is = is; shown = p; owns = subst (λ q. own q history ≡ own q n.moments) here (one.owns n i) }

    -- what holds of the node at a place
    at_place : (Q : Place → List Own → Type 0) (p : Place) (role : Role) → role_at (world_of s) held.past p ≡ Some role
        → ((e : Ending) (l : List Moment) → In e all → P e l → role_at (world_of s) held.past e.place ≡ Some role → Q e.place (own e.place l)) → Q p (own p history)
    at_place Q p role known holds =
        let st = (are_of_run state s c rs ms plain held.past).each p role known in
        let i = in_history st.node st.among in
        let there = holds st.node i.node.moments st.among i.shown (ap (role_at (world_of s) held.past) st.here ∙ known) in
        subst (λ q. Q q (own q history)) st.here (subst (Q st.node.place) (sym i.owns) there)

    device : (p : Place) (role : Role) → role_at (world_of s) held.past p ≡ Some role → AreNodeDisks role (own p history) (disks_in pairs p)
    device p role known = at_place (λ q os. AreNodeDisks role os (disks_in pairs q)) p role known (λ e l i sh k. sh.device role k)

    opens : AllOpenAgain s held history pairs
    opens p role known = at_place (λ q os. OpensAgain role os (disks_in pairs q)) p role known (λ e l i sh k. sh.opens role k)

    places : HavePlaces s held history
    places = all_fit s held history (λ p role known. at_place (λ q os. HadPlaces role (held.starts q) s.disk os) p role known (λ e l i sh k. sh.places role k))

    broken_run : IsBrokenRun (world_of s) held.past (stops_of s) history
    broken_run = subst (λ f. IsBrokenRun (world_of s) held.past f history) named.stops one.broken

    -- ---- a run that ended by a fault

    comes : (e : Ending) → InHistory e → (event : Event) → Came e.takers (stops_of s e.place) event → MayCome s history e.place event
    comes e i (Given input.Turn) came = tt
    comes e i (Given (input.Message from heard)) (stamp, took) =
        let there : i.node.place ≡ e.place = ap (λ (x : EndedNode). x.place) i.is in (
          stamp,
          subst (λ p. In (with_stamp stamp heard) (sent_to p (at from history))) there
              (took_sent (world_of s) held.past run.stops (map trace_of all) nodes one i.node i.among e i.is from (with_stamp stamp heard) took),
        )
    comes e i (Restarted pick calls) came = came
    comes e i (Given (input.Local number)) came = absurd came
    comes e i (Given (input.Outside number)) came = absurd came
    comes e i (Stopped calls) came = absurd came
    comes e i Crashed came = absurd came

    stops_at : (e : Ending) (i : InHistory e) (missed : RunFault) → IsStopped s held (disks_in pairs e.place) e i.node.moments missed → StopsAt s held history (disks_in pairs) missed
    stops_at e i missed w = record {
      at_place = e.place;
      role = w.role;
      there = w.known;
      now = w.now;
      event = w.event;
      comes = comes e i w.event w.came;
      blames = subst (λ os. Blames e.place w.role (held.starts e.place) s.disk os w.now w.event (disks_in pairs e.place) missed) (sym i.owns) w.blames;
    }

    -- each message that was sent its receiver may hear
    unanswered : (e : Ending) (i : InHistory e) → IsUnanswered s e → ⊥
    unanswered e i u =
        let there : i.node.place ≡ e.place = ap (λ (x : EndedNode). x.place) i.is in
        let sent = took_sent (world_of s) held.past run.stops (map trace_of all) nodes one i.node i.among e i.is u.from u.packet u.took in
        let heard = sent_heard s runs held.past of history broken_run.legal u.plan u.managers u.resources i.node.place u.from u.packet sent in
        true≢false (sym heard ∙ ap (λ p. may_hear u.plan p u.packet.message) there ∙ u.unheard)

    cause_of : (e : Ending) (i : InHistory e) (missed : RunFault) → IsCauseAt s held (disks_in pairs e.place) e i.node.moments missed → IsCause s held history (disks_in pairs) missed
    cause_of e i fault.NoMemory cause = tt
    cause_of e i fault.Other cause = absurd (unanswered e i cause)
    cause_of e i (fault.Store q) cause = stops_at e i (fault.Store q) cause
    cause_of e i (fault.Full q full) cause = stops_at e i (fault.Full q full) cause
    cause_of e i (fault.Damaged q second offset) cause = stops_at e i (fault.Damaged q second offset) cause

    broken_by : (missed : RunFault) → IsCause s held history (disks_in pairs) missed → Broken s held pairs missed
    broken_by missed cause = record {
      history = history;
      is_run = broken_run;
      safe = run_is_safe s held.past history runs broken_run.legal;
      fits = places;
      count = count;
      device = device;
      opens = opens;
      sized = sized;
      cause = cause;
    }

    -- memory was refused
    pub without_memory : Broken s held pairs fault.NoMemory
    without_memory = broken_by fault.NoMemory tt

    by_ending : (missed : RunFault) (e : Ending) → In e all → e.fault ≡ Some missed → Broken s held pairs missed
    by_ending missed e h is = let i = in_history e h in broken_by missed (cause_of e i missed (i.shown.cause missed is))

    -- a seat answered a fault
    pub broken : (missed : RunFault) → Faulty state c rs ms missed → Broken s held pairs missed
    broken missed (OfCoordinator e) = by_ending missed (ending_at (coordinator.node_state state) c) (inl refl) e
    broken missed (OfResource k r at e) = by_ending missed (ending_at (resource.node_state state) r) (resource_among state s c rs ms plain k r at) e
    broken missed (OfManager k m at e) = by_ending missed (ending_at manager.node_state m) (manager_among state s c rs ms plain k m at) e

    -- ---- a whole run

    module _ (ended : IsAllOver state c rs ms) where
      calm : (e : Ending) → In e all → e.fault ≡ None
      calm e h = by (find_where state s c rs ms plain e h)
        where
          by : Where state s c rs ms plain e → e.fault ≡ None
          by (AtCoordinator is) = ap (λ (x : Ending). x.fault) is ∙ ended.calm_coordinator
          by (AtResource k r at is) = ap (λ (x : Ending). x.fault) is ∙ ended.calm_resources k r at
          by (AtManager k m at is) = ap (λ (x : Ending). x.fault) is ∙ ended.calm_managers k m at

      follows : FollowsRun (world_of s) held.past (stops_of s) history
      follows =
          subst (λ f. FollowsRun (world_of s) held.past f history) named.stops
          (one.follows (λ n h. let (e, i, is, p) = node_in P all nodes with_nodes n h in subst (FitsRun (world_of s) held.past run.stops) (sym is) (p.whole (calm e i))))

      is_done : (p : Place) (role : Role) → role_at (world_of s) held.past p ≡ Some role → IsDoneAt (world_of s) held.past p (own p history)
      is_done p role known = at_place (IsDoneAt (world_of s) held.past) p role known (λ e l i sh k. sh.done ended)

      has_ended : HasEnded (world_of s) held.past history
      has_ended =
          let tc = is_done place.Tc _ refl in
          record {
            up = tc.0;
            managers = λ n m at. is_done (place.Man n) (ManagerRole m) (ap (option_map (λ x. ManagerRole x)) at) m at;
            sessions = tc.1;
          }

      pub completed : (es : List Entry) → IsMerged (map trace_of all) es → Completed s held pairs es
      completed es merged_is = record {
        history = history;
        is_run = record { legal = broken_run.legal; follows = follows; ended = has_ended };
        safe = run_is_safe s held.past history runs broken_run.legal;
        printed = one.printed es merged_is;
        fits = places;
        laid = λ p role known. at_place (λ q os. AreLaid role (held.starts q) s.disk os (disks_in pairs q)) p role known (λ e l i sh k. sh.laid (calm e i) role k);
        device = λ p role known. at_place (λ q os. AreLeft role os (disks_in pairs q)) p role known (λ e l i sh k. sh.left (calm e i) role k);
        opens = opens;
        sized = sized;
      }
