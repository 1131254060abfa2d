-- The seats of all nodes of a run at their places.
use Rattle.std.proofs.Common.{◌≡◌, ◌≢◌, ◌⊎◌, inl, inr, ◌+◌, ◌<◌, ℕ, zero, suc, true, false, List, [], ◌∷◌, ◌++◌, length, map, slice_get, append-nil, length-append, Bool, Option, Some, None, option_map, refl, ap, sym, subst, ◌∙◌, arith}
use Rattle.std.proofs.lemmas.List.{length-map}
use Rattle.std.proofs.lemmas.Option.{same_Some, slice_get_within}
use Rattle.disk_model.specs.Disk.{DiskState}
use Rattle.seata_types.specs.declared.ids.Place.{Place}
use Rattle.seata_types.specs.declared.ids.Place.TheVariants as place
use Rattle.durable_records.specs.Members.{In}
use Rattle.scenario_form.specs.declared.scenarios.Scenario.{Scenario}
use Rattle.history_rules.specs.Nodes.{Past, Role, World, role_at}
use Rattle.history_text.specs.Worlds.{world_of}
use Rattle.node_steps.specs.Nodes.{NodeState}
use Rattle.coordinator_core.specs.declared.nodes.Coordinator.{Coordinator}
use Rattle.coordinator_core.specs.Standing as coordinator
use Rattle.resource_core.specs.declared.nodes.Resource.{Resource}
use Rattle.resource_core.specs.NodeStanding as resource
use Rattle.manager_core.specs.declared.nodes.Manager.{Manager}
use Rattle.manager_core.specs.Standing as manager
use Rattle.node_seat.specs.Seating.{Seated}
use Rattle.replay_runner.proofs.Lists.{member_at}
use Rattle.replay_runner.proofs.NewNodes.{manager_def, resource_def}
use Rattle.run_ends.specs.Ending.{Ending}
use Rattle.run_ends.specs.Joining.{AreApart, AreOfRun, StandsAt}
use Rattle.run_rounds.specs.Seating.{place_in}
use Rattle.run_rounds.specs.declared.seats.Seats.{Seats}
use Rattle.node_steps.specs.Ends.{no_starts}
use Rattle.scenario_nodes.specs.Nodes.{coordinator_disks, resource_disks}
use Rattle.thread_runner.specs.Ending.{all_here, ending_at, endings, endings_at, here, node_of, seat_disks}
use Rattle.thread_runner.specs.Ready.{AreSeats}
use Rattle.thread_runner.specs.Seats.{ArePut, IsPutAt, numbered_place}
use Rattle.thread_runner.proofs.Lists.{AllThere, here_at, in_back, in_either, in_front, in_map, length_here, map_in}

-- ---- a seat that is there

pub put_there : {N : Type 0} (state : N → NodeState) (p : Place) (seat : Option (Seated N)) → IsPutAt state p seat → (x : Seated N) × (seat ≡ Some x) × ((state x.node).place ≡ p)
put_there state p None e = absurd (let no : None ≡ Some p = e in cc)
put_there state p (Some x) e = (x, refl, same_Some (state x.node).place p e)

module _ {N : Type 0} (state : N → NodeState) (managers : Bool) (count : ℕ) (seats : List (Option (Seated N))) (put : ArePut state managers count seats) where
  pub put_all : AllThere seats
  put_all k seat e = let (x, is, at) = put_there state (numbered_place managers (k + 1)) seat (put.each k seat e) in (x, is)

  pub put_count : length (all_here seats) ≡ count
  put_count = length_here seats put_all ∙ put.count

  pub put_place : (k : ℕ) (x : Seated N) → slice_get (all_here seats) k ≡ Some x → (state x.node).place ≡ numbered_place managers (k + 1)
  put_place k x e = same_Some (state x.node).place (numbered_place managers (k + 1)) (put.each k (Some x) (here_at seats put_all k x e))

-- ---- all of them, in order

-- the seats of the coordinator, of the resources and of the managers, each at its place
pub record Plain {D : Type 0} (state : D → DiskState) (s : Scenario) (c : Seated (Coordinator D)) (rs : List (Seated (Resource D))) (ms : List (Seated Manager)) : Type 0 where
  pub resource_count : length rs ≡ length s.resources
  pub manager_count : length ms ≡ length s.managers
  pub resources : (k : ℕ) (r : Seated (Resource D)) → slice_get rs k ≡ Some r → (resource.node_state state r.node).place ≡ place.Res (k + 1)
  pub managers : (k : ℕ) (m : Seated Manager) → slice_get ms k ≡ Some m → (manager.node_state m.node).place ≡ place.Man (k + 1)

abbrev pub plain_endings : {D : Type 0} → (D → DiskState) → Seated (Coordinator D) → List (Seated (Resource D)) → List (Seated Manager) → List Ending
plain_endings state c rs ms = (ending_at (coordinator.node_state state) c ∷ map (ending_at (resource.node_state state)) rs) ++ map (ending_at manager.node_state) ms

module _ {D K : Type 0} (state : D → DiskState) (s : Scenario) (seats : Seats (Coordinator D) (Resource D) Manager K) (are : AreSeats state s seats) where
  pub the_coordinator : (c : Seated (Coordinator D)) × (seats.coordinator ≡ Some c)
  the_coordinator = let (c, is, at) = put_there (coordinator.node_state state) place.Tc seats.coordinator are.coordinator in (c, is)

  pub is_plain : Plain state s the_coordinator.0 (all_here seats.resources.items) (all_here seats.managers.items)
  is_plain = record {
    resource_count = put_count (resource.node_state state) false (length s.resources) seats.resources.items are.resources;
    manager_count = put_count manager.node_state true (length s.managers) seats.managers.items are.managers;
    resources = put_place (resource.node_state state) false (length s.resources) seats.resources.items are.resources;
    managers = put_place manager.node_state true (length s.managers) seats.managers.items are.managers;
  }

  pub endings_are : endings state seats ≡ plain_endings state the_coordinator.0 (all_here seats.resources.items) (all_here seats.managers.items)
  endings_are =
      ap (λ o. (map (ending_at (coordinator.node_state state)) (here o) ++ endings_at (resource.node_state state) seats.resources.items) ++ endings_at manager.node_state seats.managers.items) the_coordinator.1

-- ---- no two at one place, and one for each role

module _ {N : Type 0} (state : N → NodeState) (make : ℕ → Place) (one : (i j : ℕ) → make i ≡ make j → i ≡ j) (tail : List Ending) (apart : AreApart tail)
    (other : (e : Ending) → In e tail → (i : ℕ) → e.place ≢ make i) where
  numbered_apart : (n : ℕ) (xs : List (Seated N)) → ((k : ℕ) (x : Seated N) → slice_get xs k ≡ Some x → (state x.node).place ≡ make (n + k)) → AreApart (map (ending_at state) xs ++ tail)
  numbered_apart n [] each = apart
  numbered_apart n (x ∷ xs) each = (
    numbered_apart (n + 1) xs (λ k y e. each (suc k) y e ∙ ap make (let same : n + suc k ≡ n + 1 + k = omega arith in same)),
    λ f h same. by f same (in_either (map (ending_at state) xs) tail f h),
  )
    where
      by : (f : Ending) → f.place ≡ (state x.node).place → In f (map (ending_at state) xs) ⊎ In f tail → ⊥
      by f same (inl h) =
          let (y, i, is) = in_map (ending_at state) xs f h in
          let there : make (n + suc i.k) ≡ make (n + 0) = sym (each (suc i.k) y i.at) ∙ sym (ap (λ (e : Ending). e.place) is) ∙ same ∙ each 0 x refl in
          let no = one (n + suc i.k) (n + 0) there in
          omega (arith, no)
      by f same (inr h) = other f h (n + 0) (same ∙ each 0 x refl)

same_res : (i j : ℕ) → place.Res i ≡ place.Res j → i ≡ j
same_res i j e = cc

same_man : (i j : ℕ) → place.Man i ≡ place.Man j → i ≡ j
same_man i j e = cc

module _ {D : Type 0} (state : D → DiskState) (s : Scenario) (c : Seated (Coordinator D)) (rs : List (Seated (Resource D))) (ms : List (Seated Manager)) (plain : Plain state s c rs ms) where
  -- where one of these stands
  pub data Where (e : Ending) : Type 0 where
    AtCoordinator : e ≡ ending_at (coordinator.node_state state) c → Where e
    AtResource : (k : ℕ) (r : Seated (Resource D)) → slice_get rs k ≡ Some r → e ≡ ending_at (resource.node_state state) r → Where e
    AtManager : (k : ℕ) (m : Seated Manager) → slice_get ms k ≡ Some m → e ≡ ending_at manager.node_state m → Where e

  pub find_where : (e : Ending) → In e (plain_endings state c rs ms) → Where e
  find_where e (inl is) = AtCoordinator is
  find_where e (inr h) = by (in_either (map (ending_at (resource.node_state state)) rs) (map (ending_at manager.node_state) ms) e h)
    where
      by : In e (map (ending_at (resource.node_state state)) rs) ⊎ In e (map (ending_at manager.node_state) ms) → Where e
      by (inl h) = let (r, i, is) = in_map (ending_at (resource.node_state state)) rs e h in AtResource i.k r i.at is
      by (inr h) = let (m, i, is) = in_map (ending_at manager.node_state) ms e h in AtManager i.k m i.at is

  pub resource_among : (k : ℕ) (r : Seated (Resource D)) → slice_get rs k ≡ Some r → In (ending_at (resource.node_state state) r) (plain_endings state c rs ms)
  resource_among k r e = inr (in_front _ _ _ (map_in (ending_at (resource.node_state state)) rs k r e))

  pub manager_among : (k : ℕ) (m : Seated Manager) → slice_get ms k ≡ Some m → In (ending_at manager.node_state m) (plain_endings state c rs ms)
  manager_among k m e = inr (in_back _ _ _ (map_in (ending_at manager.node_state) ms k m e))

  one_more : (n k : ℕ) → n ≡ 1 → n + k ≡ k + 1
  one_more n k e = omega (arith, e)

  managers_apart : AreApart (map (ending_at manager.node_state) ms ++ [])
  managers_apart =
      numbered_apart manager.node_state place.Man same_man [] tt (λ e h. absurd h) 1 ms
      (λ k m e. plain.managers k m e ∙ ap place.Man (sym (one_more 1 k refl)))

  managers_end : map (ending_at manager.node_state) ms ++ [] ≡ map (ending_at manager.node_state) ms
  managers_end = append-nil (map (ending_at manager.node_state) ms)

  not_resource : (e : Ending) → In e (map (ending_at manager.node_state) ms) → (i : ℕ) → e.place ≢ place.Res i
  not_resource e h i same =
      let (m, at, is) = in_map (ending_at manager.node_state) ms e h in
      let there : place.Man (at.k + 1) ≡ place.Res i = sym (plain.managers at.k m at.at) ∙ sym (ap (λ (x : Ending). x.place) is) ∙ same in
      cc

  others_apart : AreApart (map (ending_at (resource.node_state state)) rs ++ map (ending_at manager.node_state) ms)
  others_apart =
      numbered_apart (resource.node_state state) place.Res same_res (map (ending_at manager.node_state) ms) (subst AreApart managers_end managers_apart) not_resource 1 rs
      (λ k r e. plain.resources k r e ∙ ap place.Res (sym (one_more 1 k refl)))

  not_coordinator : (e : Ending) → In e (map (ending_at (resource.node_state state)) rs ++ map (ending_at manager.node_state) ms) → e.place ≢ place.Tc
  not_coordinator e h same = by (in_either (map (ending_at (resource.node_state state)) rs) (map (ending_at manager.node_state) ms) e h)
    where
      by : In e (map (ending_at (resource.node_state state)) rs) ⊎ In e (map (ending_at manager.node_state) ms) → ⊥
      by (inl h) =
          let (r, at, is) = in_map (ending_at (resource.node_state state)) rs e h in
          let there : place.Res (at.k + 1) ≡ place.Tc = sym (plain.resources at.k r at.at) ∙ sym (ap (λ (x : Ending). x.place) is) ∙ same in
          cc
      by (inr h) =
          let (m, at, is) = in_map (ending_at manager.node_state) ms e h in
          let there : place.Man (at.k + 1) ≡ place.Tc = sym (plain.managers at.k m at.at) ∙ sym (ap (λ (x : Ending). x.place) is) ∙ same in
          cc

  each_stands : (past : Past) (p : Place) (role : Role) → role_at (world_of s) past p ≡ Some role → StandsAt p (plain_endings state c rs ms)
  each_stands past place.Net role e = absurd (let no : None ≡ Some role = e in cc)
  each_stands past place.Tc role e = record { node = ending_at (coordinator.node_state state) c; among = inl refl; here = refl }
  each_stands past (place.Res n) role e =
      let (k, def, number, there, is) = resource_def s (record { past = past; starts = no_starts }) n role e in
      let within = slice_get_within s.resources k def there in
      let size = plain.resource_count in
      let (r, at) = member_at rs k (omega (arith, within, size)) in
      record { node = ending_at (resource.node_state state) r; among = resource_among k r at; here = plain.resources k r at ∙ ap place.Res (sym number) }
  each_stands past (place.Man n) role e =
      let (k, def, number, there, is) = manager_def s past n role e in
      let within = slice_get_within s.managers k def there in
      let size = plain.manager_count in
      let (m, at) = member_at ms k (omega (arith, within, size)) in
      record { node = ending_at manager.node_state m; among = manager_among k m at; here = plain.managers k m at ∙ ap place.Man (sym number) }

  pub are_of_run : (past : Past) → AreOfRun (world_of s) past (plain_endings state c rs ms)
  are_of_run past = record { apart = (others_apart, not_coordinator); each = each_stands past }

-- ---- their disks

map_twice : {A B C : Type 0} (f : A → B) (g : B → C) (xs : List A) → map g (map f xs) ≡ map (λ x. g (f x)) xs
map_twice f g [] = refl
map_twice f g (x ∷ xs) = ap (λ (l : List _). g (f x) ∷ l) (map_twice f g xs)

pub disks_out : {D K : Type 0} (seats : Seats (Coordinator D) (Resource D) Manager K) (c : Seated (Coordinator D)) → seats.coordinator ≡ Some c → (node : Coordinator D) (rs : List (Resource D)) → node ≡ c.node
    → rs ≡ map node_of (all_here seats.resources.items) → coordinator_disks node ∷ map resource_disks rs ≡ seat_disks seats
disks_out {D} seats c is node rs is_node are =
    ap (λ (n : Coordinator D). coordinator_disks n ∷ map resource_disks rs) is_node
    ∙ ap (λ (l : List (D × D)). coordinator_disks c.node ∷ l) (ap (map resource_disks) are ∙ map_twice node_of resource_disks (all_here seats.resources.items))
    ∙ sym (ap (λ o. map (λ (s : Seated (Coordinator D)). coordinator_disks (node_of s)) (here o) ++ map (λ (s : Seated (Resource D)). resource_disks (node_of s)) (all_here seats.resources.items)) is)

-- ---- what is left of the seats

pub ends_counted : {N : Type 0} (state : N → NodeState) (managers : Bool) (count : ℕ) (seats : List (Option (Seated N))) → ArePut state managers count seats → length (endings_at state seats) ≡ count
ends_counted state managers count seats put = length-map (all_here seats) (ending_at state) ∙ put_count state managers count seats put

module _ {D K : Type 0} (state : D → DiskState) (s : Scenario) (seats : Seats (Coordinator D) (Resource D) Manager K) (are : AreSeats state s seats) where
  pub endings_of_run : (world : World) (past : Past) → world ≡ world_of s → AreOfRun world past (endings state seats)
  endings_of_run world past is_world =
      subst (λ w. AreOfRun w past (endings state seats)) (sym is_world)
      (subst (AreOfRun (world_of s) past) (sym (endings_are state s seats are))
      (are_of_run state s (the_coordinator state s seats are).0 (all_here seats.resources.items) (all_here seats.managers.items) (is_plain state s seats are) past))

  -- in the order in which they were put one behind the other
  pub endings_in_order : (c : Seated (Coordinator D)) → seats.coordinator ≡ Some c → (first : Ending) → first ≡ ending_at (coordinator.node_state state) c → (none one two three : List Ending) → none ≡ []
      → one ≡ none ++ first ∷ [] → two ≡ one ++ endings_at (resource.node_state state) seats.resources.items → three ≡ two ++ endings_at manager.node_state seats.managers.items → three ≡ endings state seats
  endings_in_order c is first is_first none one two three empty a b d =
      d ∙ ap (λ l. l ++ endings_at manager.node_state seats.managers.items)
      (b ∙ ap (λ l. l ++ endings_at (resource.node_state state) seats.resources.items)
      (a ∙ ap (λ l. l ++ first ∷ []) empty ∙ ap (λ e. e ∷ []) is_first ∙ sym (ap (λ o. map (ending_at (coordinator.node_state state)) (here o)) is)))

  pub all_counted : length (endings state seats) ≡ length s.resources + length s.managers + 1
  all_counted =
      let one = ap length (endings_are state s seats are) in
      let plain = is_plain state s seats are in
      let servers = plain.resource_count in
      let users = plain.manager_count in
      let front = length-append (map (ending_at (resource.node_state state)) (all_here seats.resources.items)) (map (ending_at manager.node_state) (all_here seats.managers.items)) in
      let rs = length-map (all_here seats.resources.items) (ending_at (resource.node_state state)) in
      let ms = length-map (all_here seats.managers.items) (ending_at manager.node_state) in
      omega (arith, one, servers, users, front, rs, ms)
