-- What the nodes of a replay stand for after an entry.
use Rattle.std.proofs.Common.{◌≡◌, ◌≢◌, ◌+◌, ◌-◌, ℕ, nat_eq, Bool, true, false, List, [], ◌∷◌, ◌++◌, length, length-set, set, Option, Some, None, Result, Ok, refl, ap, sym, subst, ◌∙◌, arith}
use Rattle.std.proofs.lemmas.Bool.Decides.{nat_tests}
use Rattle.std.proofs.lemmas.Option.{same_Some}
use Rattle.std.specs.Prelude.{Vec}
use Rattle.std.specs.declared.alloc.Global.{Global}
use Rattle.disk_model.specs.Disk.{DiskState}
use Rattle.journal_checkpoint.specs.Extents.{Extent}
use Rattle.seata_types.specs.declared.ids.Place.{Place}
use Rattle.seata_types.specs.declared.ids.Place.TheVariants as place
use Rattle.seata_types.specs.declared.messages.Step.{Step}
use Rattle.scenario_form.specs.declared.scenarios.Scenario.{Scenario}
use Rattle.history_rules.specs.Own.{Event}
use Rattle.history_rules.specs.Devices.{last_pick}
use Rattle.history_rules.specs.Nodes.{Role, Happens, counted_at, role_at}
use Rattle.history_rules.specs.Histories.{Moment, own, same_place, Turn, Deliver, Missing, Wait, Stop, Crash, Restart, Local, Outside}
use Rattle.history_rules.specs.Histories.{Cause as Reason}
use Rattle.history_rules.specs.Schedules.{last_turn, turn_at}
use Rattle.history_text.specs.History.{cause_of, entries}
use Rattle.node_steps.specs.Nodes.{NodeState, own_entry}
use Rattle.node_steps.specs.Promises.{StaysItself}
use Rattle.history_text.specs.Worlds.{world_of}
use Rattle.coordinator_core.specs.declared.nodes.Coordinator.{Coordinator}
use Rattle.coordinator_core.specs.Standing as coordinator
use Rattle.resource_core.specs.declared.nodes.Resource.{Resource}
use Rattle.resource_core.specs.NodeStanding as resource
use Rattle.manager_core.specs.declared.nodes.Manager.{Manager}
use Rattle.manager_core.specs.Standing as manager
use Rattle.node_seat.specs.Entering.{HaveLast, IsTold, entry_at}
use Rattle.node_seat.specs.declared.faults.RunFault.{RunFault}
use Rattle.node_seat.proofs.Kept.{told_all}
use Rattle.scenario_nodes.specs.Nodes.{Held}
use Rattle.replay_runner.specs.declared.members.Member.{Member}
use Rattle.replay_runner.specs.declared.messages.Letter.{Letter}
use Rattle.replay_runner.specs.declared.nodes.Nodes.{Nodes}
use Rattle.replay_runner.specs.Members.{IsMember, Makes, turned_by}
use Rattle.replay_runner.specs.Standing.{AllStand, AreNodes, HasNode, IsServer, StandsAt, StandsOn}
use Rattle.replay_runner.specs.Steps.{next}
use Rattle.replay_runner.specs.Traces.{at}
use Rattle.replay_runner.proofs.Counted.{counted_elsewhere, counted_low, counted_set}
use Rattle.replay_runner.proofs.Histories.{same_place-refl}
use Rattle.replay_runner.proofs.Printed.{printed_here, printed_there}

-- ---- what a moment adds to a place

pub own_there : (p : Place) (m : Moment) (ms : List Moment) → same_place p m.place ≡ false → own p (m ∷ ms) ≡ own p ms
own_there p m ms away = rw away refl

turn_there : (p : Place) (m : Moment) (ms : List Moment) → same_place p m.place ≡ false → last_turn (m ∷ ms) p ≡ last_turn ms p
turn_there p m ms away = rw away refl

pub own_next : (p : Place) (ms : List Moment) (now : ℕ) (why : Reason) (event : Event) (step : Step) → own p (next ms p now why (Some event) step ∷ ms) ≡ own_entry event now step ∷ own p ms
own_next p ms now why event step = rw (same_place-refl p) refl

turn_next : (p : Place) (ms : List Moment) (now : ℕ) (why : Reason) (event : Option Event) (step : Step) → last_turn (next ms p now why event step ∷ ms) p ≡ turn_at true why (length ms + 1) (last_turn ms p)
turn_next p ms now why event step = rw (same_place-refl p) refl

-- the stamp of the last turn
turned_is : (why : Reason) (stamp before : ℕ) → turned_by (cause_of why) stamp before ≡ turn_at true why stamp before
turned_is Turn stamp before = refl
turned_is (Deliver sent from) stamp before = refl
turned_is (Missing sent) stamp before = refl
turned_is (Wait ticks) stamp before = refl
turned_is (Stop calls) stamp before = refl
turned_is Crash stamp before = refl
turned_is (Restart pick calls) stamp before = refl
turned_is (Local number) stamp before = refl
turned_is (Outside number) stamp before = refl

-- ---- one node

module _ {N K : Type 0} (state : N → NodeState) (p : Place) (role : Role) where
  -- an entry elsewhere
  pub member_stays : (member : Member N K) (ms : List Moment) (m : Moment) → same_place p m.place ≡ false → IsMember state p role member ms → IsMember state p role member (m ∷ ms)
  member_stays member ms m away k = record {
    stands = subst ((state member.seat.node).stands_for role) (sym (own_there p m ms away)) k.stands;
    traced = k.traced ∙ sym (printed_there p m ms away);
    turned = k.turned ∙ sym (turn_there p m ms away);
  }

  -- its own entry
  module _ (old new : Member N K) (ms : List Moment) (now : ℕ) (why : Reason) (event : Event) (step : Step) (r : Result (Option Letter) RunFault) (stood : (state old.seat.node).stands_for role (own p ms))
      (told : IsTold (state old.seat.node).disks event) (e : Makes state old new (length ms + 1) now (cause_of why) event step r) where
    pub member_happens : Happens role (own p ms) now event step
    member_happens = (e.does.reacts told role (own p ms) stood).0

    pub member_stands : (state new.seat.node).stands_for role (own p (next ms p now why (Some event) step ∷ ms))
    member_stands = subst ((state new.seat.node).stands_for role) (sym (own_next p ms now why event step)) (e.does.reacts told role (own p ms) stood).1

  module _ (old new : Member N K) (ms : List Moment) (now : ℕ) (why : Reason) (event : Event) (step : Step) (letter : Option Letter) (k : IsMember state p role old ms)
      (here : (state old.seat.node).place ≡ p) (told : IsTold (state old.seat.node).disks event) (e : Makes state old new (length ms + 1) now (cause_of why) event step (Ok letter)) where
    pub member_enters : IsMember state p role new (next ms p now why (Some event) step ∷ ms)
    member_enters = record {
      stands = member_stands old new ms now why event step (Ok letter) k.stands told e;
      traced = e.printed ∙ ap (λ t. t ++ entry_at (length ms + 1) (state old.seat.node).place now (cause_of why) step ∷ []) k.traced
          ∙ ap (λ q. entries (at p ms) ++ entry_at (length ms + 1) q now (cause_of why) step ∷ []) here
          ∙ sym (printed_here p (next ms p now why (Some event) step) ms (same_place-refl p));
      turned = e.turned ∙ turned_is why (length ms + 1) old.turned ∙ ap (turn_at true why (length ms + 1)) k.turned ∙ sym (turn_next p ms now why (Some event) step);
    }

-- ---- a node with disks

module _ {N K : Type 0} (state : N → NodeState) (p : Place) (role : Role) (begun : Extent) (bytes : ℕ) where
  pub server_stays : (member : Member N K) (ms : List Moment) (m : Moment) → same_place p m.place ≡ false → IsServer state p role begun bytes member ms → IsServer state p role begun bytes member (m ∷ ms)
  server_stays member ms m away k = record {
    member = member_stays state p role member ms m away k.member;
    lies = subst ((state member.seat.node).lies role begun bytes) (sym (own_there p m ms away)) k.lies;
    told = k.told;
    picked = subst (λ os. HaveLast (last_pick os) (state member.seat.node).disks) (sym (own_there p m ms away)) k.picked;
    sized = k.sized;
  }

  pub server_enters : (old new : Member N K) (ms : List Moment) (now : ℕ) (why : Reason) (event : Event) (step : Step) (letter : Option Letter) → IsServer state p role begun bytes old ms
      → (state old.seat.node).place ≡ p → StaysItself (state old.seat.node) (state new.seat.node) → Makes state old new (length ms + 1) now (cause_of why) event step (Ok letter)
      → IsServer state p role begun bytes new (next ms p now why (Some event) step ∷ ms)
  server_enters old new ms now why event step letter k here same e =
      let told = told_all (state old.seat.node).disks event k.told in
      record {
        member = member_enters state p role old new ms now why event step letter k.member here told e;
        lies = subst ((state new.seat.node).lies role begun bytes) (sym (own_next p ms now why event step)) (e.does.lies told role (own p ms) k.member.stands begun bytes k.lies).1;
        told = record { first = same.first.tells_images ∙ k.told.first; second = same.second.tells_images ∙ k.told.second };
        picked = subst (λ os. HaveLast (last_pick os) (state new.seat.node).disks) (sym (own_next p ms now why event step)) (e.does.picked told role (own p ms) k.member.stands k.picked);
        sized = record { first = same.first.size ∙ k.sized.first; second = same.second.size ∙ k.sized.second };
      }

-- ---- all nodes

no_role : (role : Role) → None ≡ Some role → ⊥
no_role role e = let no : None ≡ Some role = e in cc

-- they stand for their own entries
pub all_stand : {D K : Type 0} (state : D → DiskState) (s : Scenario) (held : Held) (n : Nodes D K) (ms : List Moment) → AreNodes state s held n ms → AllStand state s held n ms
all_stand state s held n ms t place.Net role e = absurd (no_role role e)
all_stand state s held n ms t place.Tc role e = let is = t.each place.Tc role e in record { stands = is.member.stands; sized = is.sized }
all_stand state s held n ms t (place.Res k) role e = let (m, there, is) = t.each (place.Res k) role e in (m, there, record { stands = is.member.stands; sized = is.sized })
all_stand state s held n ms t (place.Man k) role e = let (m, there, is) = t.each (place.Man k) role e in (m, there, is.stands)

-- an entry elsewhere
pub nodes_net : {D K : Type 0} (state : D → DiskState) (s : Scenario) (held : Held) (n : Nodes D K) (ms : List Moment) (m : Moment) → m.place ≡ place.Net → AreNodes state s held n ms → AreNodes state s held n (m ∷ ms)
nodes_net {D} {K} state s held n ms m here t = record { resources = t.resources; managers = t.managers; each = by }
  where
    by : (p : Place) (role : Role) → role_at (world_of s) held.past p ≡ Some role → HasNode state held s.disk n (m ∷ ms) p role
    by place.Net role e = absurd (no_role role e)
    by place.Tc role e = server_stays (coordinator.node_state state) place.Tc role (held.starts place.Tc) s.disk n.coordinator ms m (ap (same_place place.Tc) here) (t.each place.Tc role e)
    by (place.Res k) role e =
        let (x, there, is) = t.each (place.Res k) role e in
        (x, there, server_stays (resource.node_state state) (place.Res k) role (held.starts (place.Res k)) s.disk x ms m (ap (same_place (place.Res k)) here) is)
    by (place.Man k) role e =
        let (x, there, is) = t.each (place.Man k) role e in
        (x, there, member_stays manager.node_state (place.Man k) role x ms m (ap (same_place (place.Man k)) here) is)

-- ---- the coordinator's entry

abbrev pub with_coordinator : {D K : Type 0} → Nodes D K → Member (Coordinator D) K → Nodes D K
with_coordinator n new = record { coordinator = new; resources = n.resources; managers = n.managers }

module _ {D K : Type 0} (state : D → DiskState) (s : Scenario) (held : Held) (old : Nodes D K) (new : Member (Coordinator D) K) (role : Role) (there : role_at (world_of s) held.past place.Tc ≡ Some role) where
  pub nodes_coordinator : (ms : List Moment) (m : Moment) → m.place ≡ place.Tc → AreNodes state s held old ms
      → IsServer (coordinator.node_state state) place.Tc role (held.starts place.Tc) s.disk new (m ∷ ms) → AreNodes state s held (with_coordinator old new) (m ∷ ms)
  nodes_coordinator ms m here t made = record { resources = t.resources; managers = t.managers; each = by }
    where
      by : (p : Place) (other : Role) → role_at (world_of s) held.past p ≡ Some other → HasNode state held s.disk (with_coordinator old new) (m ∷ ms) p other
      by place.Net other e = absurd (no_role other e)
      by place.Tc other e = subst (λ r. IsServer (coordinator.node_state state) place.Tc r (held.starts place.Tc) s.disk new (m ∷ ms)) (same_Some role other (sym there ∙ e)) made
      by (place.Res k) other e =
          let (x, placed, is) = t.each (place.Res k) other e in
          (x, placed, server_stays (resource.node_state state) (place.Res k) other (held.starts (place.Res k)) s.disk x ms m (ap (same_place (place.Res k)) here) is)
      by (place.Man k) other e =
          let (x, placed, is) = t.each (place.Man k) other e in
          (x, placed, member_stays manager.node_state (place.Man k) other x ms m (ap (same_place (place.Man k)) here) is)

  pub stand_coordinator : (ms os : List Moment) → ((p : Place) → same_place p place.Tc ≡ false → own p os ≡ own p ms) → AreNodes state s held old ms
      → StandsOn s.disk (coordinator.node_state state new.seat.node) role (own place.Tc os) → AllStand state s held (with_coordinator old new) os
  stand_coordinator ms os elsewhere t made place.Net other e = absurd (no_role other e)
  stand_coordinator ms os elsewhere t made place.Tc other e =
      subst (λ r. StandsOn s.disk (coordinator.node_state state new.seat.node) r (own place.Tc os)) (same_Some role other (sym there ∙ e)) made
  stand_coordinator ms os elsewhere t made (place.Res k) other e =
      let (x, placed, is) = t.each (place.Res k) other e in
      (x, placed, record { stands = subst (resource.StandsAs state x.seat.node other) (sym (elsewhere (place.Res k) refl)) is.member.stands; sized = is.sized })
  stand_coordinator ms os elsewhere t made (place.Man k) other e =
      let (x, placed, is) = t.each (place.Man k) other e in
      (x, placed, subst (manager.StandsAs x.seat.node other) (sym (elsewhere (place.Man k) refl)) is.stands)

-- ---- the entry of a resource

abbrev pub with_resources : {D K : Type 0} → Nodes D K → Vec (Member (Resource D) K) Global → Nodes D K
with_resources n resources = record { coordinator = n.coordinator; resources = resources; managers = n.managers }

module _ {D K : Type 0} (state : D → DiskState) (s : Scenario) (held : Held) (old : Nodes D K) (n : ℕ) (before new : Member (Resource D) K) (resources : Vec (Member (Resource D) K) Global)
    (placed : counted_at old.resources.items n ≡ Some before) (changed : resources.items ≡ set old.resources.items (n - 1) new)
    (role : Role) (there : role_at (world_of s) held.past (place.Res n) ≡ Some role) where
  same_there : counted_at resources.items n ≡ Some new
  same_there = ap (λ l. counted_at l n) changed ∙ counted_set old.resources.items n new before placed

  other_there : (k : ℕ) → k ≢ n → counted_at resources.items k ≡ counted_at old.resources.items k
  other_there k apart = ap (λ l. counted_at l k) changed ∙ counted_elsewhere old.resources.items n k new (counted_low old.resources.items n before placed) apart

  pub nodes_resource : (ms : List Moment) (m : Moment) → m.place ≡ place.Res n → AreNodes state s held old ms
      → IsServer (resource.node_state state) (place.Res n) role (held.starts (place.Res n)) s.disk new (m ∷ ms) → AreNodes state s held (with_resources old resources) (m ∷ ms)
  nodes_resource ms m here t made = record { resources = ap length changed ∙ length-set old.resources.items (n - 1) new ∙ t.resources; managers = t.managers; each = by }
    where
      this : (other : Role) → role_at (world_of s) held.past (place.Res n) ≡ Some other → HasNode state held s.disk (with_resources old resources) (m ∷ ms) (place.Res n) other
      this other e = (new, same_there, subst (λ r. IsServer (resource.node_state state) (place.Res n) r (held.starts (place.Res n)) s.disk new (m ∷ ms)) (same_Some role other (sym there ∙ e)) made)

      at_number : (k : ℕ) (b : Bool) → nat_eq k n ≡ b → (other : Role) → role_at (world_of s) held.past (place.Res k) ≡ Some other
          → HasNode state held s.disk (with_resources old resources) (m ∷ ms) (place.Res k) other
      at_number k true is other e =
          let same : n ≡ k = grind (arith, nat_tests) in
          subst (λ j. (o : Role) → role_at (world_of s) held.past (place.Res j) ≡ Some o → HasNode state held s.disk (with_resources old resources) (m ∷ ms) (place.Res j) o) same this other e
      at_number k false is other e =
          let apart : k ≢ n = grind (arith, nat_tests) in
          let (x, found, kept) = t.each (place.Res k) other e in
          (x, other_there k apart ∙ found, server_stays (resource.node_state state) (place.Res k) other (held.starts (place.Res k)) s.disk x ms m (ap (same_place (place.Res k)) here ∙ is) kept)

      by : (p : Place) (other : Role) → role_at (world_of s) held.past p ≡ Some other → HasNode state held s.disk (with_resources old resources) (m ∷ ms) p other
      by place.Net other e = absurd (no_role other e)
      by place.Tc other e = server_stays (coordinator.node_state state) place.Tc other (held.starts place.Tc) s.disk old.coordinator ms m (ap (same_place place.Tc) here) (t.each place.Tc other e)
      by (place.Res k) other e = at_number k (nat_eq k n) refl other e
      by (place.Man k) other e =
          let (x, found, kept) = t.each (place.Man k) other e in
          (x, found, member_stays manager.node_state (place.Man k) other x ms m (ap (same_place (place.Man k)) here) kept)

  pub stand_resource : (ms os : List Moment) → ((p : Place) → same_place p (place.Res n) ≡ false → own p os ≡ own p ms) → AreNodes state s held old ms
      → StandsOn s.disk (resource.node_state state new.seat.node) role (own (place.Res n) os) → AllStand state s held (with_resources old resources) os
  stand_resource ms os elsewhere t made = by
    where
      this : (other : Role) → role_at (world_of s) held.past (place.Res n) ≡ Some other → StandsAt state s.disk (with_resources old resources) (place.Res n) other (own (place.Res n) os)
      this other e = (new, same_there, subst (λ r. StandsOn s.disk (resource.node_state state new.seat.node) r (own (place.Res n) os)) (same_Some role other (sym there ∙ e)) made)

      at_number : (k : ℕ) (b : Bool) → nat_eq k n ≡ b → (other : Role) → role_at (world_of s) held.past (place.Res k) ≡ Some other → StandsAt state s.disk (with_resources old resources) (place.Res k) other (own (place.Res k) os)
      at_number k true is other e =
          let same : n ≡ k = grind (arith, nat_tests) in
          subst (λ j. (o : Role) → role_at (world_of s) held.past (place.Res j) ≡ Some o → StandsAt state s.disk (with_resources old resources) (place.Res j) o (own (place.Res j) os)) same this other e
      at_number k false is other e =
          let apart : k ≢ n = grind (arith, nat_tests) in
          let (x, found, kept) = t.each (place.Res k) other e in
          (x, other_there k apart ∙ found, record { stands = subst (resource.StandsAs state x.seat.node other) (sym (elsewhere (place.Res k) is)) kept.member.stands; sized = kept.sized })

      by : (p : Place) (other : Role) → role_at (world_of s) held.past p ≡ Some other → StandsAt state s.disk (with_resources old resources) p other (own p os)
      by place.Net other e = absurd (no_role other e)
      by place.Tc other e =
          let is = t.each place.Tc other e in
          record { stands = subst (coordinator.StandsAs state old.coordinator.seat.node other) (sym (elsewhere place.Tc refl)) is.member.stands; sized = is.sized }
      by (place.Res k) other e = at_number k (nat_eq k n) refl other e
      by (place.Man k) other e =
          let (x, found, kept) = t.each (place.Man k) other e in
          (x, found, subst (manager.StandsAs x.seat.node other) (sym (elsewhere (place.Man k) refl)) kept.stands)

-- ---- the entry of a manager

abbrev pub with_managers : {D K : Type 0} → Nodes D K → Vec (Member Manager K) Global → Nodes D K
with_managers n managers = record { coordinator = n.coordinator; resources = n.resources; managers = managers }

module _ {D K : Type 0} (state : D → DiskState) (s : Scenario) (held : Held) (old : Nodes D K) (n : ℕ) (before new : Member Manager K) (managers : Vec (Member Manager K) Global)
    (placed : counted_at old.managers.items n ≡ Some before) (changed : managers.items ≡ set old.managers.items (n - 1) new)
    (role : Role) (there : role_at (world_of s) held.past (place.Man n) ≡ Some role) where
  same_man : counted_at managers.items n ≡ Some new
  same_man = ap (λ l. counted_at l n) changed ∙ counted_set old.managers.items n new before placed

  other_man : (k : ℕ) → k ≢ n → counted_at managers.items k ≡ counted_at old.managers.items k
  other_man k apart = ap (λ l. counted_at l k) changed ∙ counted_elsewhere old.managers.items n k new (counted_low old.managers.items n before placed) apart

  pub nodes_manager : (ms : List Moment) (m : Moment) → m.place ≡ place.Man n → AreNodes state s held old ms
      → IsMember manager.node_state (place.Man n) role new (m ∷ ms) → AreNodes state s held (with_managers old managers) (m ∷ ms)
  nodes_manager ms m here t made = record { resources = t.resources; managers = ap length changed ∙ length-set old.managers.items (n - 1) new ∙ t.managers; each = by }
    where
      this : (other : Role) → role_at (world_of s) held.past (place.Man n) ≡ Some other → HasNode state held s.disk (with_managers old managers) (m ∷ ms) (place.Man n) other
      this other e = (new, same_man, subst (λ r. IsMember manager.node_state (place.Man n) r new (m ∷ ms)) (same_Some role other (sym there ∙ e)) made)

      at_number : (k : ℕ) (b : Bool) → nat_eq k n ≡ b → (other : Role) → role_at (world_of s) held.past (place.Man k) ≡ Some other
          → HasNode state held s.disk (with_managers old managers) (m ∷ ms) (place.Man k) other
      at_number k true is other e =
          let same : n ≡ k = grind (arith, nat_tests) in
          subst (λ j. (o : Role) → role_at (world_of s) held.past (place.Man j) ≡ Some o → HasNode state held s.disk (with_managers old managers) (m ∷ ms) (place.Man j) o) same this other e
      at_number k false is other e =
          let apart : k ≢ n = grind (arith, nat_tests) in
          let (x, found, kept) = t.each (place.Man k) other e in
          (x, other_man k apart ∙ found, member_stays manager.node_state (place.Man k) other x ms m (ap (same_place (place.Man k)) here ∙ is) kept)

      by : (p : Place) (other : Role) → role_at (world_of s) held.past p ≡ Some other → HasNode state held s.disk (with_managers old managers) (m ∷ ms) p other
      by place.Net other e = absurd (no_role other e)
      by place.Tc other e = server_stays (coordinator.node_state state) place.Tc other (held.starts place.Tc) s.disk old.coordinator ms m (ap (same_place place.Tc) here) (t.each place.Tc other e)
      by (place.Res k) other e =
          let (x, found, kept) = t.each (place.Res k) other e in
          (x, found, server_stays (resource.node_state state) (place.Res k) other (held.starts (place.Res k)) s.disk x ms m (ap (same_place (place.Res k)) here) kept)
      by (place.Man k) other e = at_number k (nat_eq k n) refl other e

  pub stand_manager : (ms os : List Moment) → ((p : Place) → same_place p (place.Man n) ≡ false → own p os ≡ own p ms) → AreNodes state s held old ms
      → manager.StandsAs new.seat.node role (own (place.Man n) os) → AllStand state s held (with_managers old managers) os
  stand_manager ms os elsewhere t made = by
    where
      this : (other : Role) → role_at (world_of s) held.past (place.Man n) ≡ Some other → StandsAt state s.disk (with_managers old managers) (place.Man n) other (own (place.Man n) os)
      this other e = (new, same_man, subst (λ r. manager.StandsAs new.seat.node r (own (place.Man n) os)) (same_Some role other (sym there ∙ e)) made)

      at_number : (k : ℕ) (b : Bool) → nat_eq k n ≡ b → (other : Role) → role_at (world_of s) held.past (place.Man k) ≡ Some other → StandsAt state s.disk (with_managers old managers) (place.Man k) other (own (place.Man k) os)
      at_number k true is other e =
          let same : n ≡ k = grind (arith, nat_tests) in
          subst (λ j. (o : Role) → role_at (world_of s) held.past (place.Man j) ≡ Some o → StandsAt state s.disk (with_managers old managers) (place.Man j) o (own (place.Man j) os)) same this other e
      at_number k false is other e =
          let apart : k ≢ n = grind (arith, nat_tests) in
          let (x, found, kept) = t.each (place.Man k) other e in
          (x, other_man k apart ∙ found, subst (manager.StandsAs x.seat.node other) (sym (elsewhere (place.Man k) is)) kept.stands)

      by : (p : Place) (other : Role) → role_at (world_of s) held.past p ≡ Some other → StandsAt state s.disk (with_managers old managers) p other (own p os)
      by place.Net other e = absurd (no_role other e)
      by place.Tc other e =
          let is = t.each place.Tc other e in
          record { stands = subst (coordinator.StandsAs state old.coordinator.seat.node other) (sym (elsewhere place.Tc refl)) is.member.stands; sized = is.sized }
      by (place.Res k) other e =
          let (x, found, kept) = t.each (place.Res k) other e in
          (x, found, record { stands = subst (resource.StandsAs state x.seat.node other) (sym (elsewhere (place.Res k) refl)) kept.member.stands; sized = kept.sized })
      by (place.Man k) other e = at_number k (nat_eq k n) refl other e
