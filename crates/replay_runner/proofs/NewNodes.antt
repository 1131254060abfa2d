-- The nodes of a replay before its first entry.
use Rattle.std.proofs.Common.{◌≡◌, ◌+◌, ◌≤◌, ℕ, zero, suc, List, [], ◌∷◌, ◌++◌, All, drop, length, map, true, slice_get, Some, None, option_map, refl, ap, sym, subst, ◌∙◌, arith}
use Rattle.std.proofs.lemmas.Option.{same_Some, slice_get_within}
use Rattle.std.specs.List.{AllByRecursion, list_all}
use Rattle.disk_model.specs.Disk.{DiskState}
use Rattle.disk_model.specs.Shelf.{ShelfState}
use Rattle.journal_checkpoint.specs.Extents.{Extent}
use Rattle.seata_types.specs.declared.ids.Place.{Place}
use Rattle.seata_types.specs.declared.ids.Place.TheVariants as place
use Rattle.scenario_form.specs.declared.scenarios.ManagerDef.{ManagerDef}
use Rattle.scenario_form.specs.declared.scenarios.ResourceDef.{ResourceDef}
use Rattle.scenario_form.specs.declared.scenarios.Scenario.{Scenario}
use Rattle.history_rules.specs.Nodes.{Past, Role, role_at}
use Rattle.history_rules.specs.Nodes.{Manager as ManagerRole, Resource as ResourceRole}
use Rattle.history_rules.specs.ManagerRules.{Settings}
use Rattle.history_rules.specs.ResourceMemory.{Setup}
use Rattle.durable_records.specs.SessionOrder.{is_within}
use Rattle.history_law.specs.MessageSafety.{AreOfResources}
use Rattle.history_law.proofs.RecordNames.{records_name_resources}
use Rattle.history_text.specs.declared.entries.Entry.{Entry}
use Rattle.node_steps.specs.Nodes.{NodeState}
use Rattle.node_steps.specs.Promises.{AreTold}
use Rattle.history_text.specs.Worlds.{managers_from, resources_of, settings_of, setup_of, world_of}
use Rattle.history_text.proofs.Worlds.{slice_get-managers}
use Rattle.coordinator_core.specs.Standing as coordinator
use Rattle.coordinator_core.specs.Standing.{start_of}
use Rattle.resource_core.specs.declared.nodes.Resource.{Resource}
use Rattle.resource_core.specs.NodeStanding as resource
use Rattle.manager_core.specs.declared.nodes.Manager.{Manager}
use Rattle.node_seat.specs.Keeping.{IsBehind}
use Rattle.scenario_nodes.specs.Nodes.{HaveSize, Held, HoldAll, Holds, IsNewManager, IsNewResource, ServesAll, coordinator_role, manager_role, resource_role, resource_server}
use Rattle.scenario_nodes.specs.Together.{AreEach, numbered}
use Rattle.scenario_nodes.proofs.Together.{AreFirst, each_at, each_length, each_then, first_all, first_next, first_none}
use Rattle.replay_runner.specs.declared.members.Member.{Member}
use Rattle.replay_runner.specs.declared.nodes.Nodes.{Nodes}
use Rattle.replay_runner.specs.Going.{IsKthResource, IsKthManager, NodesGo}
use Rattle.replay_runner.specs.OnShelves.{BeginOver, CanBegin}
use Rattle.replay_runner.specs.Opened.{AreNewMembers, AreNewNodes, IsNewMember, IsSeated}
use Rattle.replay_runner.specs.Standing.{AreNodes, HasNode, IsServer}
use Rattle.replay_runner.proofs.Counted.{counted_next}
use Rattle.replay_runner.proofs.Lists.{drop_get, drop_past, member_at}
use Rattle.replay_runner.proofs.Roles.{from_map, length-resources, resource_there}

-- ---- items behind their numbers

pub length_numbered : {A : Type 0} (n : ℕ) (xs : List A) → length (numbered n xs) ≡ length xs
length_numbered n [] = refl
length_numbered n (x ∷ xs) = let rest = length_numbered (n + 1) xs in omega (arith, rest)

numbered_get : {A : Type 0} (n : ℕ) (xs : List A) (k : ℕ) (x : A) → slice_get xs k ≡ Some x → slice_get (numbered n xs) k ≡ Some (n + k, x)
numbered_get n [] k x e = absurd (let no : None ≡ Some x = e in cc)
numbered_get n (y ∷ xs) zero x e = ap (λ z. Some (n, z)) (same_Some y x e) ∙ ap (λ j. Some (j, x)) (let same : n ≡ n + 0 = omega arith in same)
numbered_get n (y ∷ xs) (suc k) x e = numbered_get (n + 1) xs k x e ∙ ap (λ j. Some (j, x)) (let same : n + 1 + k ≡ n + suc k = omega arith in same)

-- what is said of each of them by its place
pub numbered_all : {A B : Type 0} (P : ℕ × A → B → Type 0) (Q : B → Type 0) (n : ℕ) (xs : List A) (ys : List B) → ((k : ℕ) (x : A) (y : B) → slice_get xs k ≡ Some x → P (n + k, x) y → Q y)
    → AreEach P (numbered n xs) ys → AllByRecursion Q ys
numbered_all P Q n [] [] to each = tt
numbered_all P Q n (x ∷ xs) (y ∷ ys) to each = (
  to 0 x y refl (subst (λ j. P (j, x) y) (let same : n ≡ n + 0 = omega arith in same) each.0),
  numbered_all P Q (n + 1) xs ys (λ k z v here is. to (suc k) z v here (subst (λ j. P (j, z) v) (let same : n + 1 + k ≡ n + suc k = omega arith in same) is)) each.1,
)
numbered_all P Q n [] (y ∷ ys) to each = absurd each
numbered_all P Q n (x ∷ xs) [] to each = absurd each

-- ---- nodes that made no entry

module _ {A N K : Type 0} (P : ℕ → A → N → Type 0) (defs : List A) where
  abbrev pub IsNewOf : ℕ × A → Member N K → Type 0
  IsNewOf one m = IsNewMember (P one.0 one.1) m

  -- those of the first definitions were made
  abbrev pub AreMade : List (Member N K) → (count : ℕ) → Type 0
  AreMade members count = AreFirst IsNewOf (numbered 1 defs) members (numbered (count + 1) (drop count defs))

  pub none_made : (members : List (Member N K)) → members ≡ [] → AreMade members 0
  none_made members none = subst (λ ms. AreMade ms 0) (sym none) (first_none IsNewOf (numbered 1 defs))

  pub one_made : (members more : List (Member N K)) (count : ℕ) (def : A) (m : Member N K) → AreMade members count → slice_get defs count ≡ Some def → IsNewMember (P (count + 1) def) m → more ≡ members ++ m ∷ []
      → AreMade more (count + 1)
  one_made members more count def m made here new is =
      let rest = numbered (count + 1 + 1) (drop (count + 1) defs) in
      subst (λ ms. AreMade ms (count + 1)) (sym is)
      (first_next IsNewOf (numbered 1 defs) members (count + 1, def) rest m
      (subst (AreFirst IsNewOf (numbered 1 defs) members) (ap (numbered (count + 1)) (drop_get defs count def here)) made) new)

  pub all_made : (members : List (Member N K)) (count : ℕ) → AreMade members count → length defs ≤ count → AreNewMembers P defs members
  all_made members count made past =
      first_all IsNewOf (numbered 1 defs) members (numbered (count + 1) (drop count defs)) (ap (numbered (count + 1)) (drop_past defs count past)) made

  -- nodes were given seats
  pub new_seated : (nodes : List N) (members : List (Member N K)) → AreEach (λ (one : ℕ × A) (node : N). P one.0 one.1 node) (numbered 1 defs) nodes → AreEach IsSeated nodes members → AreNewMembers P defs members
  new_seated nodes members new seated =
      each_then (λ (one : ℕ × A) (node : N). P one.0 one.1 node) IsSeated IsNewOf (numbered 1 defs) nodes members
      (λ one node m is s. record { node = subst (P one.0 one.1) (sym s.node) is; traced = s.traced; turned = s.turned }) new seated

  module _ (members : List (Member N K)) (new : AreNewMembers P defs members) where
    pub count_new : length members ≡ length defs
    count_new = sym (each_length IsNewOf (numbered 1 defs) members new) ∙ length_numbered 1 defs

    pub new_at : (k : ℕ) (def : A) (m : Member N K) → slice_get defs k ≡ Some def → slice_get members k ≡ Some m → IsNewMember (P (k + 1) def) m
    new_at k def m here there =
        subst (λ j. IsNewMember (P j def) m) (let same : 1 + k ≡ k + 1 = omega arith in same)
        (each_at IsNewOf k (numbered 1 defs) members (1 + k, def) m new (numbered_get 1 defs k def here) there)

-- ---- the definition of a node

abbrev to_resource : Past → ℕ → Setup → Role
to_resource past n setup = ResourceRole setup (past.resource n)

abbrev to_manager : Settings → Role
to_manager m = ManagerRole m

pub resource_def : (s : Scenario) (held : Held) (n : ℕ) (role : Role) → role_at (world_of s) held.past (place.Res n) ≡ Some role
    → (k : ℕ) × (def : ResourceDef) × (n ≡ k + 1) × (slice_get s.resources k ≡ Some def) × (role ≡ resource_role s held (k + 1) def)
resource_def s held zero role e = absurd (let no : None ≡ Some role = e in cc)
resource_def s held (suc k) role e =
    let (setup, at, is) = from_map (to_resource held.past (suc k)) (slice_get (resources_of s) k) role e in
    let (def, there, same) = from_map (setup_of s (k + 1)) (slice_get s.resources k) setup (sym (resource_there s k) ∙ at) in
    (k, def, (let number : suc k ≡ k + 1 = omega arith in number), there, is ∙ ap (to_resource held.past (suc k)) same ∙ ap (λ n. ResourceRole (setup_of s (k + 1) def) (held.past.resource n)) (let number : suc k ≡ k + 1 = omega arith in number))

pub manager_def : (s : Scenario) (past : Past) (n : ℕ) (role : Role) → role_at (world_of s) past (place.Man n) ≡ Some role
    → (k : ℕ) × (def : ManagerDef) × (n ≡ k + 1) × (slice_get s.managers k ≡ Some def) × (role ≡ manager_role s (k + 1) def)
manager_def s past zero role e = absurd (let no : None ≡ Some role = e in cc)
manager_def s past (suc k) role e =
    let (m, at, is) = from_map to_manager (slice_get (managers_from s.lock_tries 1 s.managers) k) role e in
    let (def, there, same) = from_map (settings_of s.lock_tries (k + 1)) (slice_get s.managers k) m
    (sym (slice_get-managers s.lock_tries 1 s.managers k ∙ ap (λ j. option_map (settings_of s.lock_tries j) (slice_get s.managers k)) (let next : 1 + k ≡ k + 1 = omega arith in next)) ∙ at) in
    (k, def, (let number : suc k ≡ k + 1 = omega arith in number), there, is ∙ ap to_manager same)

-- ---- what the disks of each held

module _ {D : Type 0} (state : D → DiskState) (shelf : ShelfState D) (s : Scenario) (held : Held) where
  held_in : (n : ℕ) (defs : List ResourceDef) → AllByRecursion (Holds state shelf s) (map (resource_server s held) (numbered n defs)) → (k : ℕ) (def : ResourceDef) → slice_get defs k ≡ Some def
      → Holds state shelf s (resource_server s held (n + k, def))
  held_in n [] all k def e = absurd (let no : None ≡ Some def = e in cc)
  held_in n (d ∷ defs) all zero def e =
      subst (λ j. Holds state shelf s (resource_server s held (j, def))) (let same : n ≡ n + 0 = omega arith in same) (subst (λ x. Holds state shelf s (resource_server s held (n, x))) (same_Some d def e) all.0)
  held_in n (d ∷ defs) all (suc k) def e =
      subst (λ j. Holds state shelf s (resource_server s held (j, def))) (let same : n + 1 + k ≡ n + suc k = omega arith in same) (held_in (n + 1) defs all.1 k def e)

  pub held_at : HoldAll state shelf s held → (k : ℕ) (def : ResourceDef) → slice_get s.resources k ≡ Some def → Holds state shelf s (resource_server s held (k + 1, def))
  held_at all k def here = subst (λ j. Holds state shelf s (resource_server s held (j, def))) (let same : 1 + k ≡ k + 1 = omega arith in same) (held_in 1 s.resources all.1 k def here)

  -- the branches of the coordinator's are of its resources
  pub held_named : HoldAll state shelf s held → AreOfResources (world_of s) held.past.sessions
  held_named all =
      records_name_resources (world_of s) (length s.managers) held.past.sessions
      (subst (λ count. list_all (is_within (length s.managers) count) held.past.sessions ≡ true) (sym (length-resources s)) all.0.stand.0.list.made.within)

-- ---- all nodes

module _ {D K : Type 0} (state : D → DiskState) (shelf : ShelfState D) (s : Scenario) (n : Nodes D K) (new : AreNewNodes state shelf s n) where
  resources_count : length n.resources.items ≡ length s.resources
  resources_count = count_new (IsNewResource state shelf s) s.resources n.resources.items new.resources

  managers_count : length n.managers.items ≡ length s.managers
  managers_count = count_new (IsNewManager s) s.managers n.managers.items new.managers

  resource_new : (k : ℕ) (def : ResourceDef) (m : Member (Resource D) K) → slice_get s.resources k ≡ Some def → slice_get n.resources.items k ≡ Some m → IsNewMember (IsNewResource state shelf s (k + 1) def) m
  resource_new = new_at (IsNewResource state shelf s) s.resources n.resources.items new.resources

  manager_new : (k : ℕ) (def : ManagerDef) (m : Member Manager K) → slice_get s.managers k ≡ Some def → slice_get n.managers.items k ≡ Some m → IsNewMember (IsNewManager s (k + 1) def) m
  manager_new = new_at (IsNewManager s) s.managers n.managers.items new.managers

  -- where the disks tell their bytes, they stand for the empty history over what these held
  module _ (held : Held) (holds : HoldAll state shelf s held) where
    server : {N : Type 0} (node_state : N → NodeState) (p : Place) (role : Role) (begun : Extent) (m : Member N K) → (node_state m.seat.node).stands_for role [] → (node_state m.seat.node).lies role begun s.disk [] → AreTold (node_state m.seat.node).disks
        → HaveSize s.disk (node_state m.seat.node).disks → m.seat.trace ≡ [] → m.turned ≡ 0 → IsServer node_state p role begun s.disk m []
    server node_state p role begun m stands lies told sized traced turned = record {
      member = record { stands = stands; traced = traced; turned = turned };
      lies = lies;
      told = told;
      picked = λ pick e. absurd (let no : None ≡ Some pick = e in cc);
      sized = sized;
    }

    has_coordinator : IsServer (coordinator.node_state state) place.Tc (coordinator_role s held) (held.starts place.Tc) s.disk n.coordinator []
    has_coordinator =
        let c = new.coordinator in
        server (coordinator.node_state state) place.Tc (coordinator_role s held) (held.starts place.Tc) n.coordinator (c.node.stands held holds.0 (c.node.told held holds.0)) (c.node.lies held holds.0 (c.node.told held holds.0)) (c.node.told held holds.0) c.node.sized c.traced c.turned

    has_resource : (k : ℕ) (def : ResourceDef) → slice_get s.resources k ≡ Some def → HasNode state held s.disk n [] (place.Res (k + 1)) (resource_role s held (k + 1) def)
    has_resource k def here =
        let below = slice_get_within s.resources k def here in
        let count = resources_count in
        let (m, there) = member_at n.resources.items k (omega (arith, below, count)) in
        let r = resource_new k def m here there in
        let its = held_at state shelf s held holds k def here in (
          m,
          counted_next n.resources.items k ∙ there,
          server (resource.node_state state) (place.Res (k + 1)) (resource_role s held (k + 1) def) (held.starts (place.Res (k + 1))) m (r.node.stands held its (r.node.told held its)) (r.node.lies held its (r.node.told held its)) (r.node.told held its) r.node.sized r.traced r.turned,
        )

    has_manager : (k : ℕ) (def : ManagerDef) → slice_get s.managers k ≡ Some def → HasNode state held s.disk n [] (place.Man (k + 1)) (manager_role s (k + 1) def)
    has_manager k def here =
        let below = slice_get_within s.managers k def here in
        let count = managers_count in
        let (m, there) = member_at n.managers.items k (omega (arith, below, count)) in
        let r = manager_new k def m here there in
        (m, counted_next n.managers.items k ∙ there, record { stands = r.node.stands; traced = r.traced; turned = r.turned })

    has_each : (p : Place) (role : Role) → role_at (world_of s) held.past p ≡ Some role → HasNode state held s.disk n [] p role
    has_each place.Net role e = absurd (let no : None ≡ Some role = e in cc)
    has_each place.Tc role e =
        subst (λ r. IsServer (coordinator.node_state state) place.Tc r (held.starts place.Tc) s.disk n.coordinator []) (same_Some (coordinator_role s held) role e) has_coordinator
    has_each (place.Res j) role e =
        let (k, def, number, here, is) = resource_def s held j role e in
        subst (λ i. HasNode state held s.disk n [] (place.Res i) role) (sym number) (subst (λ r. HasNode state held s.disk n [] (place.Res (k + 1)) r) (sym is) (has_resource k def here))
    has_each (place.Man j) role e =
        let (k, def, number, here, is) = manager_def s held.past j role e in
        subst (λ i. HasNode state held s.disk n [] (place.Man i) role) (sym number) (subst (λ r. HasNode state held s.disk n [] (place.Man (k + 1)) r) (sym is) (has_manager k def here))

    are_nodes : AreNodes state s held n []
    are_nodes = record { resources = resources_count; managers = managers_count; each = has_each }

    pub begin_over : BeginOver state s n held
    begin_over = record { nodes = are_nodes; named = held_named state shelf s held holds }

  -- their first entry can be made, whatever the disks tell
  none_behind : (now : ℕ) (es : List Entry) → es ≡ [] → All (IsBehind 1 now) es
  none_behind now es none = λ k d below. let size = ap length none in absurd (omega (arith, below, size))

  abbrev number_of : Role → ℕ
  number_of (ManagerRole m) = m.number
  number_of _ = 0

  kth_resource : (now k : ℕ) (m : Member (Resource D) K) → slice_get n.resources.items k ≡ Some m → IsKthResource 1 now k m
  kth_resource now k m there =
      let within = slice_get_within n.resources.items k m there in
      let count = resources_count in
      let (def, here) = member_at s.resources k (omega (arith, within, count)) in
      let r = resource_new k def m here there in
      record {
        goes = record { behind = none_behind now m.seat.trace r.traced; able = let steps = r.node.steps in omega (arith, steps) };
        at = r.node.at;
        serving = r.node.serving;
      }

  kth_manager : (now k : ℕ) (m : Member Manager K) → slice_get n.managers.items k ≡ Some m → IsKthManager 1 now k m
  kth_manager now k m there =
      let within = slice_get_within n.managers.items k m there in
      let count = managers_count in
      let (def, here) = member_at s.managers k (omega (arith, within, count)) in
      let r = manager_new k def m here there in
      record {
        goes = record { behind = none_behind now m.seat.trace r.traced; able = let steps = r.node.steps in omega (arith, steps) };
        number = sym (ap number_of r.node.stands.0);
      }

  nodes_go : (now : ℕ) → NodesGo (length n.managers.items) (length n.resources.items) 1 now n
  nodes_go now = record {
    coordinator = record { behind = none_behind now n.coordinator.seat.trace new.coordinator.traced; able = let steps = new.coordinator.node.steps in omega (arith, steps) };
    serving = subst (λ i. ServesAll i (length n.resources.items) n.coordinator.seat.node) (sym managers_count)
        (subst (λ j. ServesAll (length s.managers) j n.coordinator.seat.node) (sym resources_count) new.coordinator.node.serving);
    resource_count = refl;
    each_resource = kth_resource now;
    manager_count = refl;
    each_manager = kth_manager now;
  }

  pub can_begin : CanBegin s n
  can_begin = record { resources = resources_count; managers = managers_count; goes = nodes_go (start_of n.coordinator.seat.node); early = new.coordinator.node.early }
