-- The traces of a replay, one for each place.
use Rattle.std.specs.Prelude.{◌≡◌, ◌==◌, ℕ, false, List, [], ◌∷◌, IsSome, Option, Some, option_map, Vec}
use Rattle.std.specs.declared.alloc.Global.{Global}
use Rattle.seata_types.specs.declared.ids.Place.{Place}
use Rattle.seata_types.specs.declared.ids.Place.TheVariants as place
use Rattle.history_rules.specs.Nodes.{counted_at}
use Rattle.history_rules.specs.Histories.{Moment}
use Rattle.history_text.specs.declared.entries.Entry.{Entry}
use Rattle.history_text.specs.History.{entries}
use Rattle.scenario_nodes.specs.Together.{AreEach}
use Rattle.replay_runner.specs.declared.collecting.Traces.{Traces}
use Rattle.replay_runner.specs.declared.members.Member.{Member}
use Rattle.replay_runner.specs.declared.nodes.Nodes.{Nodes}
use Rattle.replay_runner.specs.Traces.{at}

-- ---- of places

-- each moment stands at a place with a trace
abbrev pub HaveTraces : (Place → Option (List Entry)) → List Moment → Type 0
HaveTraces trace [] = Unit {0}
HaveTraces trace (m ∷ ms) = HaveTraces trace ms × IsSome (trace m.place)

-- of each place the trace is what is printed of its moments
pub record AreTraces (trace : Place → Option (List Entry)) (ms : List Moment) : Type 0 where
  pub have : HaveTraces trace ms
  pub each : (p : Place) (es : List Entry) → trace p ≡ Some es → es ≡ entries (at p ms)

-- ---- that are kept

abbrev pub items_of : Vec Entry Global → List Entry
items_of trace = trace.items

-- the trace at a number, counted from 1
abbrev pub trace_among : List (Vec Entry Global) → ℕ → Option (List Entry)
trace_among traces n = option_map items_of (counted_at traces n)

-- the trace of a place, if there is one
abbrev pub trace_at : Traces → Place → Option (List Entry)
trace_at t place.Net = Some t.network.items
trace_at t place.Tc = Some t.coordinator.items
trace_at t (place.Res n) = trace_among t.resources.items n
trace_at t (place.Man n) = trace_among t.managers.items n

-- the trace at a number is this one now, and no other one changed
pub record IsShortened (old new : List (Vec Entry Global)) (n : ℕ) (front : List Entry) : Type 0 where
  pub here : trace_among new n ≡ Some front
  pub others : (k : ℕ) → (k == n) ≡ false → trace_among new k ≡ trace_among old k

-- ---- of nodes

abbrev pub member_trace : {N K : Type 0} → Member N K → List Entry
member_trace m = m.seat.trace

-- the trace of the node at a place, with the entries of the network
abbrev pub trace_of : {D K : Type 0} → (network : List Entry) → Nodes D K → Place → Option (List Entry)
trace_of network n place.Net = Some network
trace_of network n place.Tc = Some n.coordinator.seat.trace
trace_of network n (place.Res k) = option_map member_trace (counted_at n.resources.items k)
trace_of network n (place.Man k) = option_map member_trace (counted_at n.managers.items k)

-- ---- once nodes are out of their seats

-- a node of this member, and its trace
abbrev pub IsNodeOf : {N K : Type 0} → Member N K → N → Type 0
IsNodeOf m node = node ≡ m.seat.node

abbrev pub IsTraceOf : {N K : Type 0} → Member N K → Vec Entry Global → Type 0
IsTraceOf m trace = trace.items ≡ m.seat.trace

-- those of these members, in order
abbrev pub AreNodesOf : {N K : Type 0} → List (Member N K) → List N → Type 0
AreNodesOf members nodes = AreEach IsNodeOf members nodes

abbrev pub AreTracesOf : {N K : Type 0} → List (Member N K) → List (Vec Entry Global) → Type 0
AreTracesOf members traces = AreEach IsTraceOf members traces
