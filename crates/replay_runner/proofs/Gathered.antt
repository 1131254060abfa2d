-- The traces of the nodes of a replay, as those of its history.
use Rattle.std.proofs.Common.{◌≡◌, ℕ, zero, suc, List, [], ◌∷◌, slice_get, is_some, IsSome, Option, Some, None, option_map, Result, Ok, Err, IfOk, refl, ap, sym, ◌∙◌, arith}
use Rattle.std.proofs.lemmas.Option.{same_Some}
use Rattle.std.specs.Prelude.{Vec}
use Rattle.std.specs.declared.alloc.Global.{Global}
use Rattle.disk_model.specs.Disk.{DiskState}
use Rattle.seata_types.specs.declared.ids.Place.{Place}
use Rattle.seata_types.specs.declared.ids.Place.TheVariants as place
use Rattle.seata_types.specs.declared.messages.Step.{Step}
use Rattle.scenario_form.specs.declared.scenarios.Scenario.{Scenario}
use Rattle.history_rules.specs.Own.{Event, Own}
use Rattle.history_rules.specs.Nodes.{Role, counted_at, role_at}
use Rattle.history_rules.specs.Histories.{ComesToNone, HappensAt, IsDone, Legal, Moment, own}
use Rattle.history_rules.specs.Histories.{Cause as Reason}
use Rattle.history_text.specs.declared.entries.Entry.{Entry}
use Rattle.history_text.specs.History.{entries}
use Rattle.history_text.specs.Worlds.{world_of}
use Rattle.manager_core.specs.declared.nodes.Manager.{Manager}
use Rattle.resource_core.specs.declared.nodes.Resource.{Resource}
use Rattle.scenario_nodes.specs.Nodes.{Held, coordinator_role}
use Rattle.replay_runner.specs.declared.collecting.Traces.{Traces}
use Rattle.replay_runner.specs.declared.members.Member.{Member}
use Rattle.replay_runner.specs.declared.nodes.Nodes.{Nodes}
use Rattle.replay_runner.specs.Collecting.{AreTraces, AreTracesOf, HaveTraces, items_of, member_trace, trace_among, trace_at, trace_of}
use Rattle.replay_runner.specs.Standing.{AreNodes}
use Rattle.replay_runner.specs.Traces.{at, places_of}
use Rattle.replay_runner.proofs.Counted.{counted_high, counted_low}
use Rattle.replay_runner.proofs.Roles.{place_role}

-- ---- the trace of each place

-- where something happens there is a node
node_there : (o : Option Role) (os : List Own) (now : ℕ) (event : Event) (step : Step) → HappensAt o os now event step → (role : Role) × (o ≡ Some role)
node_there None os now event step happens = absurd happens
node_there (Some role) os now event step happens = (role, refl)

module _ {D K : Type 0} (state : D → DiskState) (s : Scenario) (held : Held) (network : List Entry) (n : Nodes D K) (ms : List Moment) (nodes : AreNodes state s held n ms) where
  node_has : (p : Place) (role : Role) → role_at (world_of s) held.past p ≡ Some role → IsSome (trace_of network n p)
  node_has place.Net role e = refl
  node_has place.Tc role e = refl
  node_has (place.Res k) role e = let (m, there, is) = nodes.each (place.Res k) role e in ap (λ (o : Option (Member (Resource D) K)). is_some (option_map member_trace o)) there
  node_has (place.Man k) role e = let (m, there, is) = nodes.each (place.Man k) role e in ap (λ (o : Option (Member Manager K)). is_some (option_map member_trace o)) there

  none_has : (before : List Moment) (p : Place) (why : Reason) → ComesToNone before p why → IsSome (trace_of network n p)
  none_has before place.Net why none = refl
  none_has before place.Tc why none = refl
  none_has before (place.Res k) why none = absurd none
  none_has before (place.Man k) why none = absurd none

  moment_has : (before : List Moment) (m : Moment) (event : Option Event) → IsDone (world_of s) held.past before m event → IsSome (trace_of network n m.place)
  moment_has before m None done = none_has before m.place m.cause done.0
  moment_has before m (Some event) done =
      let node = node_there (role_at (world_of s) held.past m.place) (own m.place before) m.now event m.step done in
      node_has m.place node.0 node.1

  have_traces : (before : List Moment) → Legal (world_of s) held.past before → HaveTraces (trace_of network n) before
  have_traces [] legal = tt
  have_traces (m ∷ before) legal = (have_traces before legal.0, moment_has before m m.event legal.1.done)

-- a replay has those of its history
module _ {D K : Type 0} (state : D → DiskState) (s : Scenario) (held : Held) (network : List Entry) (n : Nodes D K) (ms : List Moment) (nodes : AreNodes state s held n ms) where
  resource_traced : (k : ℕ) (m : Member (Resource D) K) → counted_at n.resources.items k ≡ Some m → m.seat.trace ≡ entries (at (place.Res k) ms)
  resource_traced k m there =
      let low = counted_low n.resources.items k m there in
      let high = counted_high n.resources.items k m there in
      let count = nodes.resources in
      let (role, e) = place_role s held.past (place.Res k) (low, omega (arith, high, count)) in
      let (other, found, is) = nodes.each (place.Res k) role e in
      ap (λ (x : Member (Resource D) K). x.seat.trace) (same_Some m other (sym there ∙ found)) ∙ is.member.traced

  manager_traced : (k : ℕ) (m : Member Manager K) → counted_at n.managers.items k ≡ Some m → m.seat.trace ≡ entries (at (place.Man k) ms)
  manager_traced k m there =
      let low = counted_low n.managers.items k m there in
      let high = counted_high n.managers.items k m there in
      let count = nodes.managers in
      let (role, e) = place_role s held.past (place.Man k) (low, omega (arith, high, count)) in
      let (other, found, is) = nodes.each (place.Man k) role e in
      ap (λ (x : Member Manager K). x.seat.trace) (same_Some m other (sym there ∙ found)) ∙ is.traced

  from_member : {N : Type 0} (o : Option (Member N K)) (es : List Entry) → option_map member_trace o ≡ Some es → (m : Member N K) × (o ≡ Some m) × (es ≡ m.seat.trace)
  from_member None es e = absurd (let no : None ≡ Some es = e in cc)
  from_member (Some m) es e = (m, refl, sym (same_Some m.seat.trace es e))

  traced : network ≡ entries (at place.Net ms) → (p : Place) (es : List Entry) → trace_of network n p ≡ Some es → es ≡ entries (at p ms)
  traced passed place.Net es e = sym (same_Some network es e) ∙ passed
  traced passed place.Tc es e = sym (same_Some n.coordinator.seat.trace es e) ∙ (nodes.each place.Tc (coordinator_role s held) refl).member.traced
  traced passed (place.Res k) es e = let (m, there, is) = from_member (counted_at n.resources.items k) es e in is ∙ resource_traced k m there
  traced passed (place.Man k) es e = let (m, there, is) = from_member (counted_at n.managers.items k) es e in is ∙ manager_traced k m there

  pub gathered : network ≡ entries (at place.Net ms) → Legal (world_of s) held.past ms → AreTraces (trace_of network n) ms
  gathered passed legal = record { have = have_traces state s held network n ms nodes ms legal; each = traced passed }

-- ---- as those of the nodes

-- the trace at each number is that of the node there
traced_at : {N K : Type 0} (members : List (Member N K)) (traces : List (Vec Entry Global)) (k : ℕ) → AreTracesOf members traces → option_map items_of (slice_get traces k) ≡ option_map member_trace (slice_get members k)
traced_at [] [] k each = refl
traced_at (m ∷ ms) (v ∷ vs) zero each = ap (λ (es : List Entry). Some es) each.0
traced_at (m ∷ ms) (v ∷ vs) (suc k) each = traced_at ms vs k each.1
traced_at [] (v ∷ vs) k each = absurd each
traced_at (m ∷ ms) [] k each = absurd each

among : {N K : Type 0} (members : List (Member N K)) (traces : List (Vec Entry Global)) → AreTracesOf members traces → (n : ℕ) → trace_among traces n ≡ option_map member_trace (counted_at members n)
among members traces each zero = refl
among members traces each (suc k) = traced_at members traces k each

module _ {D K : Type 0} (n : Nodes D K) (t : Traces) (resources : AreTracesOf n.resources.items t.resources.items) (managers : AreTracesOf n.managers.items t.managers.items)
    (network : List Entry) (passed : t.network.items ≡ network) (coordinated : t.coordinator.items ≡ n.coordinator.seat.trace) where
  same_trace : (p : Place) → trace_at t p ≡ trace_of network n p
  same_trace place.Net = ap (λ (es : List Entry). Some es) passed
  same_trace place.Tc = ap (λ (es : List Entry). Some es) coordinated
  same_trace (place.Res k) = among n.resources.items t.resources.items resources k
  same_trace (place.Man k) = among n.managers.items t.managers.items managers k

  have_same : (ms : List Moment) → HaveTraces (trace_of network n) ms → HaveTraces (trace_at t) ms
  have_same [] have = tt
  have_same (m ∷ ms) have = (have_same ms have.0, ap is_some (same_trace m.place) ∙ have.1)

  pub gathered_traces : (ms : List Moment) → AreTraces (trace_of network n) ms → AreTraces (trace_at t) ms
  gathered_traces ms h = record { have = have_same ms h.have; each = λ p es e. h.each p es (sym (same_trace p) ∙ e) }

-- the history that is collected of them
pub gathered_history : {D K E : Type 0} (r : Result (List Entry) E) (n : Nodes D K) (t : Traces) (network : List Entry) (places stands : List Place) → AreTracesOf n.resources.items t.resources.items
    → AreTracesOf n.managers.items t.managers.items → t.network.items ≡ network → t.coordinator.items ≡ n.coordinator.seat.trace → stands ≡ places
    → IfOk r (λ history. (ms : List Moment) → stands ≡ places_of ms → AreTraces (trace_at t) ms → history ≡ entries ms)
    → IfOk r (λ history. (ms : List Moment) → places ≡ places_of ms → AreTraces (trace_of network n) ms → history ≡ entries ms)
gathered_history (Ok history) n t network places stands resources managers passed coordinated same collected = λ ms stand have.
    collected ms (same ∙ stand) (gathered_traces n t resources managers network passed coordinated ms have)
gathered_history (Err none) n t network places stands resources managers passed coordinated same collected = tt
