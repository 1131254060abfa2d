-- The node whose last turn is the earliest.
use Rattle.std.proofs.Common.{◌≡◌, ◌+◌, ◌<◌, ◌≤◌, ℕ, zero, suc, nat_lt, Bool, true, false, if◌then◌else◌, List, [], ◌∷◌, ◌++◌, drop, length, map, slice_get, Some, option_map, refl, ap, sym, subst, ◌∙◌, arith}
use Rattle.std.proofs.lemmas.Bool.Decides.{nat_tests}
use Rattle.std.proofs.lemmas.Option.{same_Some, slice_get_within}
use Rattle.disk_model.specs.Disk.{DiskState}
use Rattle.seata_types.specs.declared.ids.Place.{Place}
use Rattle.seata_types.specs.declared.ids.Place.TheVariants as place
use Rattle.scenario_form.specs.declared.scenarios.ManagerDef.{ManagerDef}
use Rattle.scenario_form.specs.declared.scenarios.ResourceDef.{ResourceDef}
use Rattle.scenario_form.specs.declared.scenarios.Scenario.{Scenario}
use Rattle.scenario_form.specs.Runnable.{IsPlaceAmong}
use Rattle.history_rules.specs.ManagerRules.{Settings}
use Rattle.history_rules.specs.ResourceMemory.{Setup}
use Rattle.history_rules.specs.Nodes.{Coordinator as CoordinatorRole, Manager as ManagerRole, Resource as ResourceRole}
use Rattle.history_rules.specs.Histories.{Moment, own}
use Rattle.history_rules.specs.Schedules.{earliest, last_turn, places}
use Rattle.node_steps.specs.Nodes.{NodeState}
use Rattle.history_text.proofs.Worlds.{slice_get-managers}
use Rattle.history_text.specs.Worlds.{managers_from, resources_of, settings_of, setup_of, times_of, world_of}
use Rattle.resource_core.specs.declared.nodes.Resource.{Resource}
use Rattle.resource_core.specs.NodeLaws.{lawful as resource_lawful}
use Rattle.resource_core.specs.NodeStanding as resource
use Rattle.resource_core.specs.Shown as shown
use Rattle.manager_core.specs.declared.nodes.Manager.{Manager}
use Rattle.manager_core.specs.Laws.{lawful as manager_lawful}
use Rattle.manager_core.specs.Standing as manager
use Rattle.scenario_nodes.specs.Nodes.{Held}
use Rattle.replay_runner.specs.declared.members.Member.{Member}
use Rattle.replay_runner.specs.declared.nodes.Nodes.{Nodes}
use Rattle.replay_runner.specs.Going.{NodesGo}
use Rattle.replay_runner.specs.Members.{earliest_of, turn_of}
use Rattle.replay_runner.specs.Standing.{AreNodes}
use Rattle.replay_runner.proofs.Counted.{counted_next}
use Rattle.replay_runner.proofs.Lists.{drop_get, drop_past, member_at}
use Rattle.replay_runner.proofs.Roles.{from_map, length-managers, length-resources, resource_there, role_of_manager, role_of_resource}

get_map : {A B : Type 0} (f : A → B) (xs : List A) (k : ℕ) → slice_get (map f xs) k ≡ option_map f (slice_get xs k)
get_map f [] k = refl
get_map f (x ∷ xs) zero = refl
get_map f (x ∷ xs) (suc k) = get_map f xs k

length_map : {A B : Type 0} (f : A → B) (xs : List A) → length (map f xs) ≡ length xs
length_map f [] = refl
length_map f (x ∷ xs) = let rest = length_map f xs in omega (arith, rest)

-- ---- one node after the other

abbrev turns : {N K : Type 0} → (N → NodeState) → List (Member N K) → List (Place × ℕ)
turns state members = map (turn_of state) members

abbrev stamped_at : Place → ℕ → Place × ℕ
stamped_at p t = (p, t)

module _ {N K : Type 0} (state : N → NodeState) (members : List (Member N K)) (k : ℕ) (m : Member N K) (here : slice_get members k ≡ Some m) (p : Place) (turned : ℕ) where
  next_turn : turns state (drop k members) ≡ turn_of state m ∷ turns state (drop (k + 1) members)
  next_turn = ap (turns state) (drop_get members k m here)

  -- its last turn is earlier, or not
  pub takes_over : m.turned < turned → earliest_of (stamped_at p turned) (turns state (drop k members)) ≡ earliest_of (turn_of state m) (turns state (drop (k + 1) members))
  takes_over earlier =
      let test : nat_lt m.turned turned ≡ true = grind (arith, nat_tests, earlier) in
      ap (earliest_of (stamped_at p turned)) next_turn ∙ ap (λ b. earliest_of (if b then turn_of state m else stamped_at p turned) (turns state (drop (k + 1) members))) test

  pub stays_first : turned ≤ m.turned → earliest_of (stamped_at p turned) (turns state (drop k members)) ≡ earliest_of (stamped_at p turned) (turns state (drop (k + 1) members))
  stays_first later =
      let test : nat_lt m.turned turned ≡ false = grind (arith, nat_tests, later) in
      ap (earliest_of (stamped_at p turned)) next_turn ∙ ap (λ b. earliest_of (if b then turn_of state m else stamped_at p turned) (turns state (drop (k + 1) members))) test

-- the same of equal places and stamps
pub next_first : {N K : Type 0} (state : N → NodeState) (members : List (Member N K)) (k : ℕ) (p q : Place) (turned earlier : ℕ) (answer : Place × ℕ) → p ≡ q → turned ≡ earlier
    → earliest_of (stamped_at q earlier) (turns state (drop k members)) ≡ answer → earliest_of (stamped_at p turned) (turns state (drop k members)) ≡ answer
next_first state members k p q turned earlier answer places stamps e =
    ap (λ (r : Place). earliest_of (stamped_at r turned) (turns state (drop k members))) places ∙ ap (λ (t : ℕ). earliest_of (stamped_at q t) (turns state (drop k members))) stamps ∙ e

-- all were looked at
pub all_looked : {N K : Type 0} (state : N → NodeState) (members : List (Member N K)) (k : ℕ) → length members ≤ k → (first : Place × ℕ) → first ≡ earliest_of first (turns state (drop k members))
all_looked state members k past first = ap (λ l. earliest_of first (turns state l)) (sym (drop_past members k past))

-- it is one of them
pub earliest_among : (P : Place → Type 0) (first : Place × ℕ) (others : List (Place × ℕ)) → P first.0 → ((k : ℕ) (turn : Place × ℕ) → slice_get others k ≡ Some turn → P turn.0) → P (earliest_of first others).0
earliest_among P first [] one each = one
earliest_among P first (turn ∷ others) one each = earliest_among P (if nat_lt turn.1 first.1 then turn else first) others (by (nat_lt turn.1 first.1)) (λ k t at. each (suc k) t at)
  where
    by : (b : Bool) → P (if b then turn else first).0
    by true = each zero turn refl
    by false = one

-- ---- the places of a history

abbrev timed : List Moment → Place → Place × ℕ
timed ms p = (p, last_turn ms p)

timed_either : (ms : List Moment) (b : Bool) (p q : Place) → (if b then timed ms p else timed ms q) ≡ timed ms (if b then p else q)
timed_either ms true p q = refl
timed_either ms false p q = refl

earliest_is : (ms : List Moment) (first : Place) (ps : List Place) → earliest_of (timed ms first) (map (timed ms) ps) ≡ timed ms (earliest ms first ps)
earliest_is ms first [] = refl
earliest_is ms first (p ∷ ps) =
    ap (λ t. earliest_of t (map (timed ms) ps)) (timed_either ms (nat_lt (last_turn ms p) (last_turn ms first)) p first)
    ∙ earliest_is ms (if nat_lt (last_turn ms p) (last_turn ms first) then p else first) ps

earliest_both : (ms : List Moment) (first : Place) (ps qs : List Place) → earliest ms first (ps ++ qs) ≡ earliest ms (earliest ms first ps) qs
earliest_both ms first [] qs = refl
earliest_both ms first (p ∷ ps) qs = earliest_both ms (if nat_lt (last_turn ms p) (last_turn ms first) then p else first) ps qs

-- the nodes stand at these places, with the stamps of their last turns
turns_are : {N K : Type 0} (state : N → NodeState) (ms : List Moment) (members : List (Member N K)) (ps : List Place) → length members ≡ length ps
    → ((k : ℕ) (m : Member N K) → slice_get members k ≡ Some m → (slice_get ps k ≡ Some (state m.seat.node).place) × (m.turned ≡ last_turn ms (state m.seat.node).place))
    → turns state members ≡ map (timed ms) ps
turns_are state ms [] [] size each = refl
turns_are state ms [] (p ∷ ps) size each = absurd (omega (arith, size))
turns_are state ms (m ∷ members) [] size each = absurd (omega (arith, size))
turns_are state ms (m ∷ members) (p ∷ ps) size each =
    let (stands, turned) = each zero m refl in
    let same : p ≡ (state m.seat.node).place = same_Some p (state m.seat.node).place stands in
    let head : turn_of state m ≡ timed ms p = ap (stamped_at (state m.seat.node).place) turned ∙ ap (timed ms) (sym same) in
    let rest = turns_are state ms members ps (omega (arith, size)) (λ k n there. each (suc k) n there) in
    ap (λ t. t ∷ turns state members) head ∙ ap (λ ts. timed ms p ∷ ts) rest

either_is : {A : Type 0} (b : Bool) (a : A) → (if b then a else a) ≡ a
either_is true a = refl
either_is false a = refl

-- ---- all nodes

abbrev resource_place : Setup → Place
resource_place setup = place.Res setup.number

abbrev manager_place : Settings → Place
manager_place settings = place.Man settings.number

-- the node that waits longest
abbrev pub longest : {D K : Type 0} → (D → DiskState) → Nodes D K → Place × ℕ
longest state n = earliest_of (earliest_of (stamped_at place.Tc n.coordinator.turned) (turns (resource.node_state state) n.resources.items)) (turns manager.node_state n.managers.items)

-- out of two looks
pub longest_is : {D K : Type 0} (state : D → DiskState) (n : Nodes D K) (resources : List (Member (Resource D) K)) (managers : List (Member Manager K)) (first second : Place × ℕ) → resources ≡ n.resources.items → managers ≡ n.managers.items
    → first ≡ earliest_of (stamped_at place.Tc n.coordinator.turned) (turns (resource.node_state state) resources) → second ≡ earliest_of first (turns manager.node_state managers) → second.0 ≡ (longest state n).0
longest_is {D} {K} state n resources managers first second servers users one two =
    ap (λ (t : Place × ℕ). t.0)
    (two ∙ ap (λ (l : List (Member Manager K)). earliest_of first (turns manager.node_state l)) users
    ∙ ap (λ (t : Place × ℕ). earliest_of t (turns manager.node_state n.managers.items)) (one ∙ ap (λ (l : List (Member (Resource D) K)). earliest_of (stamped_at place.Tc n.coordinator.turned) (turns (resource.node_state state) l)) servers))

module _ {D K : Type 0} (state : D → DiskState) (s : Scenario) (held : Held) (n : Nodes D K) (ms : List Moment) (t : AreNodes state s held n ms) where
  module _ (k : ℕ) (m : Member (Resource D) K) (here : slice_get n.resources.items k ≡ Some m) where
    resource_def : (def : ResourceDef) × (slice_get s.resources k ≡ Some def)
    resource_def = member_at s.resources k (let within = slice_get_within n.resources.items k m here in let count = t.resources in omega (arith, within, count))

    resource_turn : (slice_get (map resource_place (resources_of s)) k ≡ Some (shown.stands_at m.seat.node)) × (m.turned ≡ last_turn ms (shown.stands_at m.seat.node))
    resource_turn =
        let (def, there) = resource_def in
        let (x, found, is) = t.each (place.Res (k + 1)) (ResourceRole (setup_of s (k + 1) def) (held.past.resource (k + 1))) (role_of_resource s held.past k def there) in
        let same : x ≡ m = same_Some x m (sym found ∙ counted_next n.resources.items k ∙ here) in
        let stands : shown.stands_at m.seat.node ≡ place.Res (k + 1) =
        ap (λ (y : Member (Resource D) K). shown.stands_at y.seat.node) (sym same)
        ∙ (resource_lawful state x.seat.node).tells.places (ResourceRole (setup_of s (k + 1) def) (held.past.resource (k + 1))) (own (place.Res (k + 1)) ms) is.member.stands in
        let listed : slice_get (map resource_place (resources_of s)) k ≡ Some (place.Res (k + 1)) =
        get_map resource_place (resources_of s) k ∙ ap (option_map resource_place) (resource_there s k ∙ ap (option_map (setup_of s (k + 1))) there) in
        (listed ∙ ap (λ p. Some p) (sym stands), ap (λ (y : Member (Resource D) K). y.turned) (sym same) ∙ is.member.turned ∙ ap (last_turn ms) (sym stands))

  module _ (k : ℕ) (m : Member Manager K) (here : slice_get n.managers.items k ≡ Some m) where
    manager_def : (def : ManagerDef) × (slice_get s.managers k ≡ Some def)
    manager_def = member_at s.managers k (let within = slice_get_within n.managers.items k m here in let count = t.managers in omega (arith, within, count))

    manager_turn : (slice_get (map manager_place (managers_from s.lock_tries 1 s.managers)) k ≡ Some (manager.node_state m.seat.node).place) × (m.turned ≡ last_turn ms (manager.node_state m.seat.node).place)
    manager_turn =
        let (def, there) = manager_def in
        let (x, found, is) = t.each (place.Man (k + 1)) (ManagerRole (settings_of s.lock_tries (k + 1) def)) (role_of_manager s held.past k def there) in
        let same : x ≡ m = same_Some x m (sym found ∙ counted_next n.managers.items k ∙ here) in
        let stands : (manager.node_state m.seat.node).place ≡ place.Man (k + 1) =
        ap (λ (y : Member Manager K). (manager.node_state y.seat.node).place) (sym same)
        ∙ (manager_lawful x.seat.node).tells.places (ManagerRole (settings_of s.lock_tries (k + 1) def)) (own (place.Man (k + 1)) ms) is.stands in
        let listed : slice_get (map manager_place (managers_from s.lock_tries 1 s.managers)) k ≡ Some (place.Man (k + 1)) =
        get_map manager_place (managers_from s.lock_tries 1 s.managers) k ∙ ap (option_map manager_place) (slice_get-managers s.lock_tries 1 s.managers k
        ∙ ap (λ j. option_map (settings_of s.lock_tries j) (slice_get s.managers k)) (let same_number : 1 + k ≡ k + 1 = omega arith in same_number) ∙ ap (option_map (settings_of s.lock_tries (k + 1))) there) in
        (listed ∙ ap (λ p. Some p) (sym stands), ap (λ (y : Member Manager K). y.turned) (sym same) ∙ is.turned ∙ ap (last_turn ms) (sym stands))

  resource_turns : turns (resource.node_state state) n.resources.items ≡ map (timed ms) (map resource_place (resources_of s))
  resource_turns =
      turns_are (resource.node_state state) ms n.resources.items (map resource_place (resources_of s)) (t.resources ∙ sym (length-resources s) ∙ sym (length_map resource_place (resources_of s))) resource_turn

  manager_turns : turns manager.node_state n.managers.items ≡ map (timed ms) (map manager_place (managers_from s.lock_tries 1 s.managers))
  manager_turns =
      turns_are manager.node_state ms n.managers.items (map manager_place (managers_from s.lock_tries 1 s.managers))
      (t.managers ∙ sym (length-managers s.lock_tries 1 s.managers) ∙ sym (length_map manager_place (managers_from s.lock_tries 1 s.managers))) manager_turn

  pub waits_longest : (longest state n).0 ≡ earliest ms place.Tc (places (world_of s))
  waits_longest =
      let rs = map resource_place (resources_of s) in
      let users = map manager_place (managers_from s.lock_tries 1 s.managers) in
      let first : stamped_at place.Tc n.coordinator.turned ≡ timed ms place.Tc = ap (stamped_at place.Tc) coordinator_turned in
      let of_resources : earliest_of (stamped_at place.Tc n.coordinator.turned) (turns (resource.node_state state) n.resources.items) ≡ timed ms (earliest ms place.Tc rs) =
      ap (λ f. earliest_of f (turns (resource.node_state state) n.resources.items)) first ∙ ap (earliest_of (timed ms place.Tc)) resource_turns ∙ earliest_is ms place.Tc rs in
      let of_all : longest state n ≡ timed ms (earliest ms (earliest ms place.Tc rs) users) =
      ap (λ f. earliest_of f (turns manager.node_state n.managers.items)) of_resources ∙ ap (earliest_of (timed ms (earliest ms place.Tc rs))) manager_turns ∙ earliest_is ms (earliest ms place.Tc rs) users in
      ap (λ (turn : Place × ℕ). turn.0) of_all ∙ sym (earliest_both ms place.Tc rs users)
      ∙ ap (λ p. earliest ms p (rs ++ users)) (sym (either_is (nat_lt (last_turn ms place.Tc) (last_turn ms place.Tc)) place.Tc))
    where
      coordinator_turned : n.coordinator.turned ≡ last_turn ms place.Tc
      coordinator_turned = (t.each place.Tc (CoordinatorRole (times_of s) held.past.sessions) refl).member.turned

-- it stands at one of the places
module _ {D K : Type 0} (state : D → DiskState) (n : Nodes D K) (stamp now : ℕ) (g : NodesGo (length n.managers.items) (length n.resources.items) stamp now n) where
  abbrev Among : Place → Type 0
  Among p = IsPlaceAmong (length n.resources.items) (length n.managers.items) p

  resource_among : (k : ℕ) (turn : Place × ℕ) → slice_get (turns (resource.node_state state) n.resources.items) k ≡ Some turn → Among turn.0
  resource_among k turn here =
      let (m, there, is) = from_map (turn_of (resource.node_state state)) (slice_get n.resources.items k) turn (sym (get_map (turn_of (resource.node_state state)) n.resources.items k) ∙ here) in
      let within = slice_get_within n.resources.items k m there in
      let stands : turn.0 ≡ place.Res (k + 1) = ap (λ (u : Place × ℕ). u.0) is ∙ (g.each_resource k m there).at in
      let low : 1 ≤ k + 1 = omega arith in
      let high : k + 1 ≤ length n.resources.items = omega (arith, within) in
      subst Among (sym stands) (low, high)

  manager_among : (k : ℕ) (turn : Place × ℕ) → slice_get (turns manager.node_state n.managers.items) k ≡ Some turn → Among turn.0
  manager_among k turn here =
      let (m, there, is) = from_map (turn_of manager.node_state) (slice_get n.managers.items k) turn (sym (get_map (turn_of manager.node_state) n.managers.items k) ∙ here) in
      let within = slice_get_within n.managers.items k m there in
      let stands : turn.0 ≡ place.Man (k + 1) = ap (λ (u : Place × ℕ). u.0) is ∙ ap (λ j. place.Man j) (g.each_manager k m there).number in
      let low : 1 ≤ k + 1 = omega arith in
      let high : k + 1 ≤ length n.managers.items = omega (arith, within) in
      subst Among (sym stands) (low, high)

  pub longest_among : (p : Place) → p ≡ (longest state n).0 → Among p
  longest_among p is = subst Among (sym is) among
    where
      among : Among (longest state n).0
      among = earliest_among Among (earliest_of (stamped_at place.Tc n.coordinator.turned) (turns (resource.node_state state) n.resources.items)) (turns manager.node_state n.managers.items)
          (earliest_among Among (stamped_at place.Tc n.coordinator.turned) (turns (resource.node_state state) n.resources.items) tt resource_among) manager_among
