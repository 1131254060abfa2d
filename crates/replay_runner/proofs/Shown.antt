-- What the disks that are given back show.
use Rattle.std.proofs.Common.{◌≡◌, inl, inr, ◌+◌, ℕ, zero, suc, Bool, true, false, if◌then◌else◌, List, [], ◌∷◌, length, map, slice_get, Option, Some, None, option_map, refl, ap, sym, subst, ◌∙◌, arith, add-one}
use Rattle.std.proofs.lemmas.List.{length-map}
use Rattle.std.proofs.lemmas.Option.{same_Some, slice_get-map}
use Rattle.disk_model.specs.Disk.{DiskState}
use Rattle.journal_checkpoint.specs.Extents.{Extent}
use Rattle.journal_checkpoint.specs.Images.{Pair}
use Rattle.seata_types.specs.declared.ids.Place.{Place}
use Rattle.seata_types.specs.declared.ids.Place.TheVariants as place
use Rattle.scenario_form.specs.declared.scenarios.Scenario.{Scenario}
use Rattle.durable_records.specs.declared.coordinators.SessionRecord.{SessionRecord}
use Rattle.durable_records.specs.declared.resources.ResourceRecord.{ResourceRecord}
use Rattle.session_store.specs.Standing.{StandsForSessions}
use Rattle.resource_store.specs.Standing.{StandsForRecords}
use Rattle.history_rules.specs.Own.{Left, Own}
use Rattle.history_rules.specs.CoordinatorMemory.{sessions_left}
use Rattle.history_rules.specs.Devices.{calls_left, last_pick, may_stand}
use Rattle.history_rules.specs.ResourceMemory.{Setup, memory}
use Rattle.history_rules.specs.Nodes.{MayStand, Role, counted_at, role_at}
use Rattle.history_rules.specs.Nodes.{Coordinator as CoordinatorRole, Manager as ManagerRole, Resource as ResourceRole}
use Rattle.history_rules.specs.Histories.{Moment, own}
use Rattle.node_steps.specs.Durable.{AreNodeDisks, keepable}
use Rattle.node_steps.specs.Ends.{AreLaid}
use Rattle.history_text.specs.Worlds.{world_of}
use Rattle.coordinator_core.specs.declared.nodes.Coordinator.{Coordinator}
use Rattle.coordinator_core.specs.Standing as coordinator
use Rattle.coordinator_core.specs.NodeLaws.{lawful as coordinator_lawful}
use Rattle.resource_core.specs.declared.nodes.Resource.{Resource}
use Rattle.resource_core.specs.NodeStanding as resource
use Rattle.resource_core.specs.NodeLaws.{lawful as resource_lawful}
use Rattle.resource_core.specs.Shown as shown
use Rattle.manager_core.specs.declared.nodes.Manager.{Manager}
use Rattle.manager_core.specs.Standing as manager
use Rattle.node_seat.specs.Entering.{HaveLast}
use Rattle.scenario_nodes.specs.Nodes.{HaveSize, Held, coordinator_disks, coordinator_role, resource_disks, resource_role, store_setting}
use Rattle.scenario_nodes.specs.Shelves.{pair_of}
use Rattle.replay_runner.specs.declared.members.Member.{Member}
use Rattle.replay_runner.specs.declared.nodes.Nodes.{Nodes}
use Rattle.replay_runner.specs.Leaving.{AllOpenAgain, AreLeft, HaveSizes, OpensAgain, disks_in, nth_pair}
use Rattle.replay_runner.specs.Opened.{member_pair, node_disks}
use Rattle.replay_runner.specs.Standing.{AllStand, AreNodes, HasNode, StandsAt, disks_at, member_disks}
use Rattle.replay_runner.proofs.Blamed.{Alike}
use Rattle.replay_runner.proofs.Lists.{member_at}
use Rattle.replay_runner.proofs.Roles.{role_of_resource}

-- ---- the disks of one node, without their stops

-- what may be kept was in flight
flight_kept : {R : Type 0} (b : Bool) (flight : Option R) (r : R) → (if b then flight else None) ≡ Some r → flight ≡ Some r
flight_kept true flight r e = e
flight_kept false flight r e = absurd (let no : None ≡ Some r = e in cc)

module _ {D : Type 0} (state : D → DiskState) where
  pub coordinator_shows : (c : Coordinator D) (role : Role) (owns : List Own) → coordinator.StandsAs state c role owns → AreNodeDisks role owns (pair_of state (coordinator_disks c))
  coordinator_shows c (CoordinatorRole times past) owns stands = let d = (coordinator_lawful state c).device (CoordinatorRole times past) owns stands in record { images = d.images; counted = d.counted }
  coordinator_shows c (ResourceRole setup past) owns stands = absurd stands
  coordinator_shows c (ManagerRole settings) owns stands = absurd stands

  pub coordinator_leaves : (c : Coordinator D) (role : Role) (owns : List Own) → coordinator.StandsAs state c role owns → HaveLast (last_pick owns) (coordinator.disks_of state c)
      → AreLeft role owns (pair_of state (coordinator_disks c))
  coordinator_leaves c (CoordinatorRole times past) owns stands last =
      let d = (coordinator_lawful state c).device (CoordinatorRole times past) owns stands in
      record { images = d.images; counted = let counted = d.counted in omega (arith, counted); picked = λ pick e. last pick e }
  coordinator_leaves c (ResourceRole setup past) owns stands last = absurd stands
  coordinator_leaves c (ManagerRole settings) owns stands last = absurd stands

  pub resource_shows : (r : Resource D) (role : Role) (owns : List Own) → resource.StandsAs state r role owns → AreNodeDisks role owns (pair_of state (resource_disks r))
  resource_shows r (ResourceRole setup past) owns stands = let d = (resource_lawful state r).device (ResourceRole setup past) owns stands in record { images = d.images; counted = d.counted }
  resource_shows r (CoordinatorRole times past) owns stands = absurd stands
  resource_shows r (ManagerRole settings) owns stands = absurd stands

  pub resource_leaves : (r : Resource D) (role : Role) (owns : List Own) → resource.StandsAs state r role owns → HaveLast (last_pick owns) (shown.disks_of state r)
      → AreLeft role owns (pair_of state (resource_disks r))
  resource_leaves r (ResourceRole setup past) owns stands last =
      let d = (resource_lawful state r).device (ResourceRole setup past) owns stands in
      record { images = d.images; counted = let counted = d.counted in omega (arith, counted); picked = λ pick e. last pick e }
  resource_leaves r (CoordinatorRole times past) owns stands last = absurd stands
  resource_leaves r (ManagerRole settings) owns stands last = absurd stands

  -- an opening takes them
  sessions_open : (c : Coordinator D) (left : Left SessionRecord) (owns : List Own) (a b : List ℕ) → coordinator.StandsForEither (coordinator.sessions_of c) left (keepable false owns left) a b
      → (rs : List SessionRecord) × MayStand left rs × (managers : ℕ) × (resources : ℕ) × StandsForSessions managers resources rs a b
  sessions_open c left owns a b (inl h) = (left.records, inl refl, coordinator.managers c, coordinator.resources c, h)
  sessions_open c left owns a b (inr (r, kept, h)) = (r ∷ left.records, inr (r, flight_kept (may_stand (calls_left false owns)) left.flight r kept, refl), coordinator.managers c, coordinator.resources c, h)

  pub coordinator_opens : (c : Coordinator D) (role : Role) (owns : List Own) → coordinator.StandsAs state c role owns → OpensAgain role owns (pair_of state (coordinator_disks c))
  coordinator_opens c (CoordinatorRole times past) owns stands = λ a b one two. sessions_open c (sessions_left past owns) owns a b (stands.1.disks.images a b one two)
  coordinator_opens c (ResourceRole setup past) owns stands = absurd stands
  coordinator_opens c (ManagerRole settings) owns stands = absurd stands

  -- the setting of its store
  as_setting : (r : Resource D) (setup : Setup) → setup ≡ shown.setup_in r → (rs : List ResourceRecord) (a b : List ℕ) → StandsForRecords (store_setting (shown.setup_in r)) rs a b → StandsForRecords (store_setting setup) rs a b
  as_setting r setup is rs a b h = subst (λ (w : Setup). StandsForRecords (store_setting w) rs a b) (sym is) h

  records_open : (r : Resource D) (setup : Setup) → setup ≡ shown.setup_in r → (left : Left ResourceRecord) (owns : List Own) (a b : List ℕ)
      → resource.StandsForEither (store_setting (shown.setup_in r)) left (keepable true owns left) a b → (rs : List ResourceRecord) × MayStand left rs × StandsForRecords (store_setting setup) rs a b
  records_open r setup is left owns a b (inl h) = (left.records, inl refl, as_setting r setup is left.records a b h)
  records_open r setup is left owns a b (inr (q, kept, h)) =
      (q ∷ left.records, inr (q, flight_kept (may_stand (calls_left true owns)) left.flight q kept, refl), as_setting r setup is (q ∷ left.records) a b h)

  pub resource_opens : (r : Resource D) (role : Role) (owns : List Own) → resource.StandsAs state r role owns → OpensAgain role owns (pair_of state (resource_disks r))
  resource_opens r (ResourceRole setup past) owns stands = λ a b one two. records_open r setup stands.is (memory setup past owns).left owns a b (stands.disks.images a b one two)
  resource_opens r (CoordinatorRole times past) owns stands = absurd stands
  resource_opens r (ManagerRole settings) owns stands = absurd stands

  pub manager_opens : (m : Manager) (role : Role) (owns : List Own) (disks : Pair) → manager.StandsAs m role owns → OpensAgain role owns disks
  manager_opens m role owns disks stands = subst (λ r. OpensAgain r owns disks) (sym stands.0) tt

  -- their journal stands where the entries leave it
  pub coordinator_laid : (c : Coordinator D) (role : Role) (begun : Extent) (size : ℕ) (owns : List Own) → coordinator.StandsAs state c role owns → coordinator.LiesAs state c role begun size owns
      → AreLaid role begun size owns (pair_of state (coordinator_disks c))
  coordinator_laid c (CoordinatorRole times past) begun size owns stands lies = let laid = (coordinator_lawful state c).laid (CoordinatorRole times past) begun size owns stands lies in λ a b one two. laid a b one two
  coordinator_laid c (ResourceRole setup past) begun size owns stands lies = absurd stands
  coordinator_laid c (ManagerRole settings) begun size owns stands lies = absurd stands

  pub resource_laid : (r : Resource D) (role : Role) (begun : Extent) (size : ℕ) (owns : List Own) → resource.StandsAs state r role owns → resource.LiesAs state r role begun size owns
      → AreLaid role begun size owns (pair_of state (resource_disks r))
  resource_laid r (ResourceRole setup past) begun size owns stands lies = let laid = (resource_lawful state r).laid (ResourceRole setup past) begun size owns stands lies in λ a b one two. laid a b one two
  resource_laid r (CoordinatorRole times past) begun size owns stands lies = absurd stands
  resource_laid r (ManagerRole settings) begun size owns stands lies = absurd stands

  pub manager_laid : (m : Manager) (role : Role) (begun : Extent) (size : ℕ) (owns : List Own) (disks : Pair) → manager.StandsAs m role owns → AreLaid role begun size owns disks
  manager_laid m role begun size owns disks stands = subst (λ r. AreLaid r begun size owns disks) (sym stands.0) tt

  pub manager_role_is : (m : Manager) (role : Role) (owns : List Own) (disks : Pair) → manager.StandsAs m role owns → AreNodeDisks role owns disks × AreLeft role owns disks
  manager_role_is m role owns disks stands = subst (λ r. AreNodeDisks r owns disks × AreLeft r owns disks) (sym stands.0) (tt, tt)

-- ---- among the disks of all

pub nth_map : {D : Type 0} (state : D → DiskState) (ds : List (D × D)) (k : ℕ) (d : D × D) → slice_get ds k ≡ Some d → nth_pair (map (pair_of state) ds) k ≡ pair_of state d
nth_map state [] k d e = absurd (let no : None ≡ Some d = e in cc)
nth_map state (x ∷ ds) zero d e = ap (pair_of state) (same_Some x d e)
nth_map state (x ∷ ds) (suc k) d e = nth_map state ds k d e

module _ {D K : Type 0} (state : D → DiskState) (n : Nodes D K) where
  abbrev pub all_disks : List Pair
  all_disks = map (pair_of state) (node_disks n)

  pub resource_in : (k : ℕ) (m : Member (Resource D) K) → counted_at n.resources.items k ≡ Some m → disks_in all_disks (place.Res k) ≡ pair_of state (resource_disks m.seat.node)
  resource_in zero m here = absurd (let no : None ≡ Some m = here in cc)
  resource_in (suc k) m here =
      nth_map state (map (member_pair {D = D} {K = K}) n.resources.items) k (resource_disks m.seat.node)
      (slice_get-map (member_pair {D = D} {K = K}) n.resources.items k ∙ ap (option_map (member_pair {D = D} {K = K})) here)

  pub count_disks : length all_disks ≡ length n.resources.items + 1
  count_disks =
      let outer = length-map (node_disks n) (pair_of state) in
      let inner = length-map n.resources.items (member_pair {D = D} {K = K}) in
      omega (arith, outer, inner)

-- ---- the disks of a replay

module _ {D K : Type 0} (state : D → DiskState) (s : Scenario) (held : Held) (n : Nodes D K) where
  shows_at : (p : Place) (role : Role) (owns : List Own) → StandsAt state s.disk n p role owns → AreNodeDisks role owns (disks_in (all_disks state n) p)
  shows_at place.Net role owns stands = absurd stands
  shows_at place.Tc role owns is = coordinator_shows state n.coordinator.seat.node role owns is.stands
  shows_at (place.Res k) role owns (m, here, is) =
      subst (λ (d : Pair). AreNodeDisks role owns d) (sym (resource_in state n k m here)) (resource_shows state m.seat.node role owns is.stands)
  shows_at (place.Man k) role owns (m, here, stands) = (manager_role_is state m.seat.node role owns (disks_in (all_disks state n) (place.Man k)) stands).0

  pub all_show : (ms : List Moment) → AllStand state s held n ms → (p : Place) (role : Role) → role_at (world_of s) held.past p ≡ Some role → AreNodeDisks role (own p ms) (disks_in (all_disks state n) p)
  all_show ms stand p role e = shows_at p role (own p ms) (stand p role e)

  opens_at : (p : Place) (role : Role) (owns : List Own) → StandsAt state s.disk n p role owns → OpensAgain role owns (disks_in (all_disks state n) p)
  opens_at place.Net role owns stands = absurd stands
  opens_at place.Tc role owns is = coordinator_opens state n.coordinator.seat.node role owns is.stands
  opens_at (place.Res k) role owns (m, here, is) =
      subst (λ (d : Pair). OpensAgain role owns d) (sym (resource_in state n k m here)) (resource_opens state m.seat.node role owns is.stands)
  opens_at (place.Man k) role owns (m, here, stands) = manager_opens state m.seat.node role owns (disks_in (all_disks state n) (place.Man k)) stands

  pub all_open : (ms : List Moment) → AllStand state s held n ms → AllOpenAgain s held ms (all_disks state n)
  all_open ms stand p role e = opens_at p role (own p ms) (stand p role e)

  leaves_at : (bytes : ℕ) (ms : List Moment) (p : Place) (role : Role) → HasNode state held bytes n ms p role → AreLeft role (own p ms) (disks_in (all_disks state n) p)
  leaves_at bytes ms place.Net role has = absurd has
  leaves_at bytes ms place.Tc role has = coordinator_leaves state n.coordinator.seat.node role (own place.Tc ms) has.member.stands has.picked
  leaves_at bytes ms (place.Res k) role (m, here, is) =
      subst (λ (d : Pair). AreLeft role (own (place.Res k) ms) d) (sym (resource_in state n k m here))
      (resource_leaves state m.seat.node role (own (place.Res k) ms) is.member.stands is.picked)
  leaves_at bytes ms (place.Man k) role (m, here, is) = (manager_role_is state m.seat.node role (own (place.Man k) ms) (disks_in (all_disks state n) (place.Man k)) is.stands).1

  pub all_left : (ms : List Moment) → AreNodes state s held n ms → (p : Place) (role : Role) → role_at (world_of s) held.past p ≡ Some role → AreLeft role (own p ms) (disks_in (all_disks state n) p)
  all_left ms nodes p role e = leaves_at s.disk ms p role (nodes.each p role e)

  laid_at : (bytes : ℕ) (ms : List Moment) (p : Place) (role : Role) → HasNode state held bytes n ms p role → AreLaid role (held.starts p) bytes (own p ms) (disks_in (all_disks state n) p)
  laid_at bytes ms place.Net role has = absurd has
  laid_at bytes ms place.Tc role has = coordinator_laid state n.coordinator.seat.node role (held.starts place.Tc) bytes (own place.Tc ms) has.member.stands has.lies
  laid_at bytes ms (place.Res k) role (m, here, is) =
      subst (λ (d : Pair). AreLaid role (held.starts (place.Res k)) bytes (own (place.Res k) ms) d) (sym (resource_in state n k m here))
      (resource_laid state m.seat.node role (held.starts (place.Res k)) bytes (own (place.Res k) ms) is.member.stands is.lies)
  laid_at bytes ms (place.Man k) role (m, here, is) = manager_laid state m.seat.node role (held.starts (place.Man k)) bytes (own (place.Man k) ms) (disks_in (all_disks state n) (place.Man k)) is.stands

  pub all_laid : (ms : List Moment) → AreNodes state s held n ms → (p : Place) (role : Role) → role_at (world_of s) held.past p ≡ Some role → AreLaid role (held.starts p) s.disk (own p ms) (disks_in (all_disks state n) p)
  all_laid ms nodes p role e = laid_at s.disk ms p role (nodes.each p role e)

  stands_by : (bytes : ℕ) (ms : List Moment) (p : Place) (role : Role) → HasNode state held bytes n ms p role → StandsAt state bytes n p role (own p ms)
  stands_by bytes ms place.Net role has = absurd has
  stands_by bytes ms place.Tc role has = record { stands = has.member.stands; sized = has.sized }
  stands_by bytes ms (place.Res k) role (m, here, is) = (m, here, record { stands = is.member.stands; sized = is.sized })
  stands_by bytes ms (place.Man k) role (m, here, is) = (m, here, is.stands)

  pub all_stand : (ms : List Moment) → AreNodes state s held n ms → AllStand state s held n ms
  all_stand ms nodes p role e = stands_by s.disk ms p role (nodes.each p role e)

  -- all have the scenario's size
  pub all_sized : length n.resources.items ≡ length s.resources → (ms : List Moment) → AllStand state s held n ms → HaveSizes s (all_disks state n)
  all_sized count ms stand zero below = let is = stand place.Tc (coordinator_role s held) refl in record { first = is.sized.first; second = is.sized.second }
  all_sized count ms stand (suc k) below =
      let size = count_disks state n in
      let (def, here) = member_at s.resources k (omega (arith, below, size, count)) in
      let (m, there, is) = stand (place.Res (suc k)) (resource_role s held (k + 1) def) (sym (ap (λ i. role_at (world_of s) held.past (place.Res i)) (add-one k)) ∙ role_of_resource s held.past k def here) in
      subst (λ (d : Pair). HaveSize s.disk d) (sym (resource_in state n (suc k) m there)) (record { first = is.sized.first; second = is.sized.second })

  -- the disks of the node at a place are those that are given back
  pub alike_in : (p : Place) (role : Role) (owns : List Own) → StandsAt state s.disk n p role owns → Alike (disks_at state n p) (disks_in (all_disks state n) p)
  alike_in place.Net role owns stands = absurd stands
  alike_in place.Tc role owns stands = record { first = λ a one. one; second = λ b two. two; faults = refl }
  alike_in (place.Res k) role owns (m, here, stands) =
      subst (λ (o : Option (Member (Resource D) K)). Alike (member_disks state o) (disks_in (all_disks state n) (place.Res k))) (sym here)
      (subst (λ (d : Pair). Alike (shown.disks_of state m.seat.node) d) (sym (resource_in state n k m here))
      (record { first = λ a one. one; second = λ b two. two; faults = refl }))
  alike_in (place.Man k) role owns stands = record { first = λ a one. one; second = λ b two. two; faults = refl }
