-- Nodes that did nothing yet may have seats of a run.
use Rattle.std.proofs.Common.{◌≡◌, ◌&&◌, ◌+◌, ℕ, zero, suc, Bool, true, false, if◌then◌else◌, List, [], ◌∷◌, All, length, slice_get, Option, Some, None, refl, ap, sym, subst, ◌∙◌, arith, true≢false}
use Rattle.std.proofs.lemmas.List.Elements.{All-head, All-tail}
use Rattle.disk_model.specs.Disk.{DiskState}
use Rattle.disk_model.specs.Shelf.{ShelfState}
use Rattle.seata_types.specs.declared.ids.Place.{Place}
use Rattle.seata_types.specs.declared.ids.Place.TheVariants as place
use Rattle.seata_types.specs.declared.messages.Input.{Input}
use Rattle.seata_types.specs.declared.messages.Input.TheVariants as input
use Rattle.seata_types.specs.declared.messages.Message.{Message}
use Rattle.seata_types.specs.declared.messages.Message.TheVariants as message
use Rattle.durable_records.specs.SessionOrder.{is_counted, is_empty}
use Rattle.scenario_form.specs.declared.scenarios.ManagerDef.{ManagerDef}
use Rattle.scenario_form.specs.declared.scenarios.ResourceDef.{ResourceDef}
use Rattle.scenario_form.specs.declared.scenarios.Scenario.{Scenario}
use Rattle.scenario_form.specs.Runnable.{IsRunnable, IsServerAmong, IsStop}
use Rattle.history_rules.specs.CoordinatorMemory.{start}
use Rattle.history_rules.specs.ManagerRules.{Settings}
use Rattle.history_rules.specs.Nodes.{Role, World, Past, role_at}
use Rattle.history_rules.specs.Nodes.{Manager as ManagerRole}
use Rattle.history_rules.specs.Histories.{same_place}
use Rattle.history_text.specs.Worlds.{world_of}
use Rattle.node_steps.specs.Ends.{Starts}
use Rattle.node_steps.specs.Framing.{ComesFramable}
use Rattle.node_steps.specs.Nodes.{NodeState}
use Rattle.node_steps.specs.Promises.{AreTold}
use Rattle.coordinator_core.specs.declared.nodes.Coordinator.{Coordinator}
use Rattle.coordinator_core.specs.Serving.{HasNumbers}
use Rattle.coordinator_core.specs.Standing as coordinator
use Rattle.resource_core.specs.declared.nodes.Resource.{Resource}
use Rattle.resource_core.specs.NodeStanding as resource
use Rattle.resource_core.specs.Ready.{Serves}
use Rattle.resource_core.specs.Shown as shown
use Rattle.manager_core.specs.declared.nodes.Manager.{Manager}
use Rattle.manager_core.specs.Standing as manager
use Rattle.node_seat.specs.Keeping.{have_disks}
use Rattle.node_seat.specs.Naming.{OverAll, Run}
use Rattle.node_seat.specs.Running.{CanServe, HaveBytes, IsFreshIn, IsOfRun, MayBeGiven, have_resources, may_hear}
use Rattle.node_seat.specs.Turns.{HasDisksToStop}
use Rattle.node_seat.specs.declared.plans.Plan.{Plan}
use Rattle.scenario_nodes.specs.Nodes.{HaveSize, Held, IsNewCoordinator, IsNewManager, IsNewResource, coordinator_role, manager_role, resource_role}
use Rattle.scenario_nodes.specs.Together.{AreEach, numbered}
use Rattle.replay_runner.proofs.NewNodes.{held_at}
use Rattle.replay_runner.proofs.Roles.{role_of_manager, role_of_resource}
use Rattle.run_links.specs.Linked.{AreEndsAt}
use Rattle.run_links.specs.Plans.{IsPlanOf, plan_of, stops_at, stops_of}
use Rattle.thread_runner.specs.Seats.{IsKnown, IsNamedFor, IsOutfitAt, KnowsDisks, MaySit, begun_at}
use Rattle.thread_runner.specs.declared.outfits.Outfit.{Outfit}

-- ---- a manager has no stops

not_manager : (servers : ℕ) (n : ℕ) (q : Place) → IsServerAmong servers q → same_place q (place.Man n) ≡ false
not_manager servers n place.Net is = absurd is
not_manager servers n place.Tc is = refl
not_manager servers n (place.Res k) is = refl
not_manager servers n (place.Man k) is = absurd is

no_stops : (servers n : ℕ) (stops : List (Place × ℕ × ℕ)) → All (IsStop servers) stops → stops_at stops (place.Man n) ≡ []
no_stops servers n [] all = refl
no_stops servers n (stop ∷ stops) all =
    ap (λ b. if b then (stop.1, stop.2) ∷ stops_at stops (place.Man n) else stops_at stops (place.Man n)) (not_manager servers n stop.0 (All-head (IsStop servers) stop stops all).0)
    ∙ no_stops servers n stops (All-tail (IsStop servers) stop stops all)

-- ---- the coordinator serves what it may hear

both_true : (a b : Bool) → (a && b) ≡ true → (a ≡ true) × (b ≡ true)
both_true true true e = (refl, refl)
both_true true false e = absurd (let no : false ≡ true = e in cc)
both_true false b e = absurd (let no : false ≡ true = e in cc)

has_numbers : (plan : Plan) (heard : Message) → may_hear plan place.Tc heard ≡ true → HasNumbers plan.managers plan.resources heard
has_numbers plan (message.Begin manager timeout) may = may
has_numbers plan (message.Register xid resource call ticket kind hold check) may = both_true (is_counted plan.resources resource) (have_resources plan.resources hold) may
has_numbers plan _ may = tt

same_settings : (a b : Settings) → ManagerRole a ≡ ManagerRole b → a ≡ b
same_settings a b e = cc

pub manager_at : (s : Scenario) (n : ℕ) (def : ManagerDef) (m : Manager) → IsNewManager s n def m → (manager.node_state m).place ≡ place.Man n
manager_at s n def m new = ap (λ (q : Settings). place.Man q.number) (sym (same_settings _ _ new.stands.0))

-- ---- any node

-- records with places where their journals stood
abbrev held_of : Past → Starts → Held
held_of past starts = record { past = past; starts = starts }

module _ (world : World) (held : Past → Starts → Type 0) (run : Run) (s : Scenario) (named : IsNamedFor world run s) where
  -- a node of the scenario in this run
  here : (past : Past) (p : Place) (role : Role) → role_at (world_of s) past p ≡ Some role → role_at world past p ≡ Some role
  here past p role known = ap (λ (v : World). role_at v past p) named.is_world ∙ known

  sized_in : (Lies : ℕ → Type 0) → Lies s.disk → Lies run.bytes
  sized_in Lies lies = subst Lies (sym named.bytes) lies

  module _ (node : NodeState) (p : Place) (at : node.place ≡ p) (o : Outfit) (from : ℕ) (plan : IsPlanOf s p from o.plan) (ends : AreEndsAt run.queue p o.takers o.senders)
      (begins : (h : Held) → IsKnown held run h → p ≡ place.Tc → from ≡ start h.past.sessions) (fresh : OverAll held run (λ past over. IsFreshIn world past over node))
      (inputs : (given : Input) → ComesFramable given → MayBeGiven o.plan node.place given → node.serves given)
      (told : run.tells → have_disks node.place ≡ true → AreTold node.disks) (sized : have_disks node.place ≡ true → HaveBytes run.bytes node.disks)
      (stops : HasDisksToStop node o.plan) where
    of_run : OverAll held run (λ past over. IsOfRun past over node o.plan o.takers o.senders)
    of_run past starts = record {
      stops = ap (λ (q : Plan). q.stops) plan.is ∙ sym (ap (λ f. f p) named.stops) ∙ ap run.stops (sym at);
      starts = λ tells tc. ap (λ (q : Plan). q.from) plan.is ∙ begins (held_of past starts) tells (sym at ∙ tc);
      to_here = λ k t e. subst (λ q. (t.line.to ≡ q) × (t.line.queue ≡ run.queue t.line.from q)) (sym at) (ends.to_here k t e);
      from_here = λ k e there. subst (λ q. (e.line.from ≡ q) × (e.line.queue ≡ run.queue q e.line.to)) (sym at) (ends.from_here k e there);
      told = λ tells has. told tells.0 has;
      sized = sized;
      managers = ap (λ (q : Plan). q.managers) plan.is ∙ sym named.managers;
      resources = ap (λ (q : Plan). q.resources) plan.is ∙ sym named.resources;
    }

    pub may_sit : MaySit world held run node o
    may_sit = record {
      fresh = fresh;
      serves = record { inputs = inputs; starts = plan.starts; picks = plan.picks };
      of_run = of_run;
      apart = ends.apart;
      unused = ends.unused;
      stops = stops;
    }

  have_bytes : (disks : _) → HaveSize s.disk disks → HaveBytes run.bytes disks
  have_bytes disks sized = (sized.first ∙ sym named.bytes, sized.second ∙ sym named.bytes)

  -- ---- a manager

  pub manager_sits : IsRunnable s → (k : ℕ) (def : ManagerDef) → slice_get s.managers k ≡ Some def → (m : Manager) → IsNewManager s (k + 1) def m
      → (o : Outfit) → IsOutfitAt s run.queue (place.Man (k + 1)) o → MaySit world held run (manager.node_state m) o
  manager_sits runs k def there m new o is =
      may_sit (manager.node_state m) (place.Man (k + 1)) (manager_at s (k + 1) def m new) o 0 is.plan is.ends
      (λ h known tc. absurd (let no : place.Man (k + 1) ≡ place.Tc = tc in cc)) fresh
      (λ given framable may. tt) (λ tells has. absurd (true≢false (sym has)))
      (λ has. absurd (true≢false (sym has))) stops
    where
      fresh : OverAll held run (λ past over. IsFreshIn world past over (manager.node_state m))
      fresh past starts = (manager_role s (k + 1) def, here past (place.Man (k + 1)) (manager_role s (k + 1) def) (role_of_manager s past k def there), λ tells. (new.stands, tt))

      none : o.plan.stops ≡ []
      none = ap (λ (q : Plan). q.stops) is.plan.is ∙ no_stops (length s.resources) (k + 1) s.stops runs.stops

      stops : HasDisksToStop (manager.node_state m) o.plan
      stops some = absurd (true≢false (sym (ap is_empty none) ∙ some))

  -- ---- nodes with disks, which this run knows

  module _ {D : Type 0} (state : D → DiskState) (shelf : ShelfState D) (knows : KnowsDisks state shelf s held run) where
    -- the coordinator, whose clock begins where its disks tell
    pub coordinator_sits : (c : Coordinator D) → IsNewCoordinator state shelf s (length s.managers) (length s.resources) c → (o : Outfit) → IsOutfitAt s run.queue place.Tc o
        → MaySit world held run (coordinator.node_state state c) (begun_at o (coordinator.start_of c))
    coordinator_sits c new o is =
        may_sit (coordinator.node_state state c) place.Tc refl (begun_at o (coordinator.start_of c)) (coordinator.start_of c)
        (record { is = ap (λ (q : Plan). record q { from = coordinator.start_of c }) is.plan.is; starts = new.early; picks = is.plan.picks }) is.ends begins
        fresh inputs
        (λ tells has. let some = knows.told tells in new.told some.0 some.1.0) (λ has. have_bytes (coordinator.disks_of state c) new.sized) (λ some. refl)
      where
        stands : (h : Held) → IsKnown held run h → coordinator.StandsAs state c (coordinator_role s h) []
        stands h known = new.stands h (knows.held_all h known.1).0 (new.told h (knows.held_all h known.1).0)

        begins : (h : Held) → IsKnown held run h → place.Tc ≡ place.Tc → coordinator.start_of c ≡ start h.past.sessions
        begins h known tc = (stands h known).1.starts

        fresh : OverAll held run (λ past over. IsFreshIn world past over (coordinator.node_state state c))
        fresh past starts =
            let h = held_of past starts in (
              coordinator_role s h,
              here past place.Tc (coordinator_role s h) refl,
              λ tells. (
                stands h tells,
                sized_in (λ size. coordinator.LiesAs state c (coordinator_role s h) (starts place.Tc) size []) (new.lies h (knows.held_all h tells.1).0 (new.told h (knows.held_all h tells.1).0)),
              ),
            )

        inputs : (given : Input) → ComesFramable given → MayBeGiven (begun_at o (coordinator.start_of c)).plan place.Tc given → coordinator.serves c given
        inputs input.Turn framable may = new.serving input.Turn tt framable
        inputs (input.Message from heard) framable may =
            new.serving (input.Message from heard)
            (subst (λ n. HasNumbers n (length s.resources) heard) (ap (λ (q : Plan). q.managers) is.plan.is)
            (subst (λ n. HasNumbers o.plan.managers n heard) (ap (λ (q : Plan). q.resources) is.plan.is) (has_numbers (begun_at o (coordinator.start_of c)).plan heard may))) framable
        inputs (input.Local number) framable may = absurd may
        inputs (input.Outside number) framable may = absurd may

    -- a resource
    pub resource_sits : (k : ℕ) (def : ResourceDef) → slice_get s.resources k ≡ Some def → (r : Resource D) → IsNewResource state shelf s (k + 1) def r
        → (o : Outfit) → IsOutfitAt s run.queue (place.Res (k + 1)) o → MaySit world held run (resource.node_state state r) o
    resource_sits k def there r new o is =
        may_sit (resource.node_state state r) (place.Res (k + 1)) new.at o 0 is.plan is.ends
        (λ h known tc. absurd (let no : place.Res (k + 1) ≡ place.Tc = tc in cc)) fresh
        (λ given framable may. inputs given framable (subst (λ p. MayBeGiven o.plan p given) new.at may))
        (λ tells has. let some = knows.told tells in new.told some.0 (held_at state shelf s some.0 some.1 k def there)) (λ has. have_bytes (shown.disks_of state r) new.sized) (λ some. refl)
      where
        fresh : OverAll held run (λ past over. IsFreshIn world past over (resource.node_state state r))
        fresh past starts =
            let h = held_of past starts in (
              resource_role s h (k + 1) def,
              here past (place.Res (k + 1)) (resource_role s h (k + 1) def) (role_of_resource s past k def there),
              λ tells.
                  let holds = held_at state shelf s h (knows.held_all h tells.1) k def there in
                  let told = new.told h holds in (
                    new.stands h holds told,
                    sized_in (λ size. resource.LiesAs state r (resource_role s h (k + 1) def) (starts (place.Res (k + 1))) size []) (new.lies h holds told),
                  ),
            )

        inputs : (given : Input) → ComesFramable given → MayBeGiven o.plan (place.Res (k + 1)) given → resource.serves r given
        inputs input.Turn framable may = new.serving input.Turn tt
        inputs (input.Message from heard) framable may = new.serving (input.Message from heard) framable
        inputs (input.Local number) framable may = absurd may
        inputs (input.Outside number) framable may = absurd may
