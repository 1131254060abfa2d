-- The nodes go on after an entry, whatever their disks tell.
use Rattle.std.proofs.Common.{◌≡◌, ◌≢◌, ◌+◌, ◌<◌, ◌≤◌, ℕ, suc, zero, nat_eq, nat_lt, Bool, true, false, List, [], ◌∷◌, ◌++◌, All, get_or, length, length-set, set, slice_get, Option, Some, OnOk, Result, Ok, Err, refl, ap, sym, subst, ◌∙◌, arith, length-append}
use Rattle.std.proofs.lemmas.Bool.Decides.{nat_tests}
use Rattle.std.proofs.lemmas.Option.{same_Some}
use Rattle.std.specs.Prelude.{Vec}
use Rattle.std.specs.declared.alloc.Global.{Global}
use Rattle.disk_model.specs.Disk.{DiskState}
use Rattle.seata_types.specs.declared.ids.Place.{Place}
use Rattle.seata_types.specs.declared.ids.Place.TheVariants as place
use Rattle.seata_types.specs.declared.messages.Step.{Step}
use Rattle.history_rules.specs.Own.{Event}
use Rattle.history_text.specs.declared.entries.Cause.{Cause}
use Rattle.history_text.specs.declared.entries.Entry.{Entry}
use Rattle.node_steps.specs.Nodes.{NodeState}
use Rattle.node_steps.specs.Promises.{StaysItself}
use Rattle.coordinator_core.specs.declared.nodes.Coordinator.{Coordinator}
use Rattle.seata_types.specs.declared.limits.TheConstants.{NODE_STEPS}
use Rattle.coordinator_core.specs.Standing as coordinator
use Rattle.resource_core.specs.declared.nodes.Resource.{Resource}
use Rattle.resource_core.specs.NodeStanding as resource
use Rattle.resource_core.specs.Shown as shown
use Rattle.manager_core.specs.declared.nodes.Manager.{Manager}
use Rattle.manager_core.specs.Standing as manager
use Rattle.node_seat.specs.Entering.{entry_at}
use Rattle.node_seat.specs.Keeping.{IsBehind}
use Rattle.node_seat.specs.declared.faults.RunFault.{RunFault}
use Rattle.replay_runner.specs.declared.members.Member.{Member}
use Rattle.replay_runner.specs.declared.messages.Letter.{Letter}
use Rattle.replay_runner.specs.declared.nodes.Nodes.{Nodes}
use Rattle.replay_runner.specs.Going.{CanGoOn, IsKthManager, IsKthResource, NodesGo}
use Rattle.replay_runner.specs.Members.{IsMade}
use Rattle.replay_runner.proofs.Entered.{with_coordinator, with_managers, with_resources}
use Rattle.replay_runner.proofs.Lists.{slice_get-set_other, slice_get-set_same}

-- ---- entries that stand behind the next one

get_front : {A : Type 0} (xs ys : List A) (k : ℕ) (d : A) → k < length xs → get_or (xs ++ ys) k d ≡ get_or xs k d
get_front [] ys k d below = absurd (omega (arith, below))
get_front (x ∷ xs) ys zero d below = refl
get_front (x ∷ xs) ys (suc k) d below = get_front xs ys k d (omega (arith, below))

get_end : {A : Type 0} (xs : List A) (x d : A) → get_or (xs ++ x ∷ []) (length xs) d ≡ x
get_end [] x d = refl
get_end (y ∷ xs) x d = get_end xs x d

all_snoc : {A : Type 0} (P : A → Type 0) (xs : List A) (x : A) → All P xs → P x → All P (xs ++ x ∷ [])
all_snoc {A} P xs x all last = λ k d below. by k d below (nat_lt k (length xs)) refl
  where
    by : (k : ℕ) (d : A) → k < length (xs ++ x ∷ []) → (b : Bool) → nat_lt k (length xs) ≡ b → P (get_or (xs ++ x ∷ []) k d)
    by k d below true e = let low : k < length xs = grind (arith, nat_tests) in subst P (sym (get_front xs (x ∷ []) k d low)) (all k d low)
    by k d below false e =
        let high : length xs ≤ k = grind (arith, nat_tests) in
        let end : k ≡ length xs = let size = length-append xs (x ∷ []) in omega (arith, high, below, size) in
        subst (λ n. P (get_or (xs ++ x ∷ []) n d)) (sym end) (subst P (sym (get_end xs x d)) last)

all_more : {A : Type 0} (P Q : A → Type 0) (xs : List A) → ((x : A) → P x → Q x) → All P xs → All Q xs
all_more P Q xs more all = λ k d below. more (get_or xs k d) (all k d below)

module _ (stamp now stamp' later : ℕ) (rises : stamp ≤ stamp') (passes : now ≤ later) where
  behind_later : (e : Entry) → IsBehind stamp now e → IsBehind stamp' later e
  behind_later e b = record {
    stamp_rises = let r = b.stamp_rises in omega (arith, r, rises);
    clock_rises = let r = b.clock_rises in omega (arith, r, passes);
  }

  all_later : (trace : List Entry) → All (IsBehind stamp now) trace → All (IsBehind stamp' later) trace
  all_later trace all = all_more (IsBehind stamp now) (IsBehind stamp' later) trace behind_later all

-- ---- one node

module _ {N K : Type 0} (left : N → ℕ) (steps stamp now : ℕ) where
  -- an entry elsewhere, at this moment or a later one
  pub goes_later : (stamp' later : ℕ) → stamp ≤ stamp' → now ≤ later → (m : Member N K) → CanGoOn left steps stamp now m → CanGoOn left steps stamp' later m
  goes_later stamp' later rises passes m g = record {
    behind = all_later stamp now stamp' later rises passes m.seat.trace g.behind;
    able = let able = g.able in omega (arith, able, rises);
  }

  -- its own entry
  goes_with : (old new : Member N K) (at : Place) (why : Cause) (step : Step) → CanGoOn left steps stamp now old
      → new.seat.trace ≡ old.seat.trace ++ entry_at stamp at now why step ∷ [] → left old.seat.node ≤ left new.seat.node + 1 → CanGoOn left steps (stamp + 1) now new
  goes_with old new at why step g printed counted = record {
    behind = subst (All (IsBehind (stamp + 1) now)) (sym printed)
        (all_snoc (IsBehind (stamp + 1) now) old.seat.trace (entry_at stamp at now why step) (all_later stamp now (stamp + 1) now (omega arith) (omega arith) old.seat.trace g.behind)
        (record { stamp_rises = omega arith; clock_rises = omega arith }));
    able = let able = g.able in omega (arith, able, counted);
  }

  goes_made : (state : N → NodeState) (old new : Member N K) (why : Cause) (event : Event) (letter : Option Letter)
      → CanGoOn left steps stamp now old → left old.seat.node ≤ left new.seat.node + 1 → IsMade state old new stamp now why event (Ok letter)
      → CanGoOn left steps (stamp + 1) now new
  goes_made state old new why event letter g counted (step, e) = goes_with old new (state old.seat.node).place why step g e.printed counted

-- ---- a later moment

module _ (stamp now stamp' later : ℕ) (rises : stamp ≤ stamp') (passes : now ≤ later) where
  resource_later : {D K : Type 0} (k : ℕ) (m : Member (Resource D) K) → IsKthResource stamp now k m → IsKthResource stamp' later k m
  resource_later k m g = record { goes = goes_later shown.steps_left NODE_STEPS stamp now stamp' later rises passes m g.goes; at = g.at; serving = g.serving }

  manager_later : {K : Type 0} (k : ℕ) (m : Member Manager K) → IsKthManager stamp now k m → IsKthManager stamp' later k m
  manager_later k m g = record { goes = goes_later manager.steps_of NODE_STEPS stamp now stamp' later rises passes m g.goes; number = g.number }

  pub nodes_later : {D K : Type 0} (managers resources : ℕ) (n : Nodes D K) → NodesGo managers resources stamp now n → NodesGo managers resources stamp' later n
  nodes_later managers resources n g = record {
    coordinator = goes_later coordinator.steps_left NODE_STEPS stamp now stamp' later rises passes n.coordinator g.coordinator;
    serving = g.serving;
    resource_count = g.resource_count;
    each_resource = λ k m at. resource_later k m (g.each_resource k m at);
    manager_count = g.manager_count;
    each_manager = λ k m at. manager_later k m (g.each_manager k m at);
  }

-- ---- an entry

module _ {D K : Type 0} (state : D → DiskState) (managers resources stamp now : ℕ) (old : Nodes D K) (g : NodesGo managers resources stamp now old) (why : Cause) (event : Event) where
  next_resources : (k : ℕ) (m : Member (Resource D) K) → slice_get old.resources.items k ≡ Some m → IsKthResource (stamp + 1) now k m
  next_resources k m at = resource_later stamp now (stamp + 1) now (omega arith) (omega arith) k m (g.each_resource k m at)

  next_managers : (k : ℕ) (m : Member Manager K) → slice_get old.managers.items k ≡ Some m → IsKthManager (stamp + 1) now k m
  next_managers k m at = manager_later stamp now (stamp + 1) now (omega arith) (omega arith) k m (g.each_manager k m at)

  next_coordinator : CanGoOn coordinator.steps_left NODE_STEPS (stamp + 1) now old.coordinator
  next_coordinator = goes_later coordinator.steps_left NODE_STEPS stamp now (stamp + 1) now (omega arith) (omega arith) old.coordinator g.coordinator

  -- of the coordinator
  pub goes_coordinator : (new : Member (Coordinator D) K) (r : Result (Option Letter) RunFault) → coordinator.steps_left old.coordinator.seat.node ≤ coordinator.steps_left new.seat.node + 1
      → StaysItself (coordinator.node_state state old.coordinator.seat.node) (coordinator.node_state state new.seat.node)
      → IsMade (coordinator.node_state state) old.coordinator new stamp now why event r
      → OnOk r (NodesGo managers resources (stamp + 1) now (with_coordinator old new))
  goes_coordinator new (Ok letter) counted same made = record {
    coordinator = goes_made coordinator.steps_left NODE_STEPS stamp now (coordinator.node_state state)
        old.coordinator new why event letter g.coordinator counted made;
    serving = λ given may framable. same.same_inputs given (g.serving given may framable);
    resource_count = g.resource_count;
    each_resource = next_resources;
    manager_count = g.manager_count;
    each_manager = next_managers;
  }
  goes_coordinator new (Err missed) counted same made = tt

  -- of the k-th resource
  module _ (k : ℕ) (before after : Member (Resource D) K) (list : Vec (Member (Resource D) K) Global) (placed : slice_get old.resources.items k ≡ Some before) (changed : list.items ≡ set old.resources.items k after) where
    pub goes_resource : (r : Result (Option Letter) RunFault) → shown.steps_left before.seat.node ≤ shown.steps_left after.seat.node + 1
        → StaysItself (resource.node_state state before.seat.node) (resource.node_state state after.seat.node)
        → IsMade (resource.node_state state) before after stamp now why event r
        → OnOk r (NodesGo managers resources (stamp + 1) now (with_resources old list))
    goes_resource (Ok letter) counted same made = record {
      coordinator = next_coordinator;
      serving = g.serving;
      resource_count = ap length changed ∙ length-set old.resources.items k after ∙ g.resource_count;
      each_resource = λ j m at. by j m (ap (λ l. slice_get l j) (sym changed) ∙ at) (nat_eq j k) refl;
      manager_count = g.manager_count;
      each_manager = next_managers;
    }
      where
        this : IsKthResource (stamp + 1) now k after
        this =
            let kept = g.each_resource k before placed in
            record {
              goes = goes_made shown.steps_left NODE_STEPS stamp now (resource.node_state state) before after why event letter kept.goes counted made;
              at = same.same_place ∙ kept.at;
              serving = λ given serves. same.same_inputs given (kept.serving given serves);
            }

        by : (j : ℕ) (m : Member (Resource D) K) → slice_get (set old.resources.items k after) j ≡ Some m → (b : Bool) → nat_eq j k ≡ b → IsKthResource (stamp + 1) now j m
        by j m at true e =
            let here : j ≡ k = grind (arith, nat_tests) in
            let is : after ≡ m = same_Some after m (sym (ap (slice_get (set old.resources.items k after)) here ∙ slice_get-set_same old.resources.items k after before placed) ∙ at) in
            subst (λ i. IsKthResource (stamp + 1) now i m) (sym here) (subst (λ (x : Member (Resource D) K). IsKthResource (stamp + 1) now k x) is this)
        by j m at false e =
            let apart : j ≢ k = grind (arith, nat_tests) in
            next_resources j m (sym (slice_get-set_other old.resources.items k j after apart) ∙ at)
    goes_resource (Err missed) counted same made = tt

  -- of the k-th manager
  module _ (k : ℕ) (before after : Member Manager K) (list : Vec (Member Manager K) Global) (placed : slice_get old.managers.items k ≡ Some before) (changed : list.items ≡ set old.managers.items k after) where
    pub goes_manager : (r : Result (Option Letter) RunFault) → manager.steps_of before.seat.node ≤ manager.steps_of after.seat.node + 1 → (manager.node_state after.seat.node).place ≡ (manager.node_state before.seat.node).place
        → IsMade manager.node_state before after stamp now why event r → OnOk r (NodesGo managers resources (stamp + 1) now (with_managers old list))
    goes_manager (Ok letter) counted same made = record {
      coordinator = next_coordinator;
      serving = g.serving;
      resource_count = g.resource_count;
      each_resource = next_resources;
      manager_count = ap length changed ∙ length-set old.managers.items k after ∙ g.manager_count;
      each_manager = λ j m at. by j m (ap (λ l. slice_get l j) (sym changed) ∙ at) (nat_eq j k) refl;
    }
      where
        this : IsKthManager (stamp + 1) now k after
        this =
            let kept = g.each_manager k before placed in
            record {
              goes = goes_made manager.steps_of NODE_STEPS stamp now manager.node_state before after why event letter kept.goes counted made;
              number = same_number (manager.settings after.seat.node).number (manager.settings before.seat.node).number same ∙ kept.number;
            }
          where
            same_number : (a b : ℕ) → place.Man a ≡ place.Man b → a ≡ b
            same_number a b e = cc

        by : (j : ℕ) (m : Member Manager K) → slice_get (set old.managers.items k after) j ≡ Some m → (b : Bool) → nat_eq j k ≡ b → IsKthManager (stamp + 1) now j m
        by j m at true e =
            let here : j ≡ k = grind (arith, nat_tests) in
            let is : after ≡ m = same_Some after m (sym (ap (slice_get (set old.managers.items k after)) here ∙ slice_get-set_same old.managers.items k after before placed) ∙ at) in
            subst (λ i. IsKthManager (stamp + 1) now i m) (sym here) (subst (λ (x : Member Manager K). IsKthManager (stamp + 1) now k x) is this)
        by j m at false e =
            let apart : j ≢ k = grind (arith, nat_tests) in
            next_managers j m (sym (slice_get-set_other old.managers.items k j after apart) ∙ at)
    goes_manager (Err missed) counted same made = tt
