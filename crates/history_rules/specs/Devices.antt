-- A node's disk by its own entries: how many calls a stop still lets pass, whether the node is down, and what was in
-- flight.
use Rattle.std.specs.Prelude.{ℕ, ◌+◌, ◌-◌, nat_le, nat_lt, Bool, true, false, ◌||◌, if◌then◌else◌, List, [], ◌∷◌, Option, Some, None, option_map}
use Rattle.seata_types.specs.declared.acts.Act.{Act}
use Rattle.seata_types.specs.declared.acts.Act.TheVariants as act
use Rattle.seata_types.specs.declared.acts.Durable.{Durable}
use Rattle.seata_types.specs.declared.acts.Durable.TheVariants as durable
use Rattle.seata_types.specs.declared.messages.Step.{Step}
use Rattle.history_rules.specs.Own.{Event, Stopped, Restarted, Own, still}

-- ---- down

-- whether a node is down after an act, by whether it was before
abbrev pub down_after : Act → Bool → Bool
down_after (act.Down kept at) before = true
down_after (act.Restarted kept) before = false
down_after _ before = before

-- a node is down from an entry that took it down until it is restarted
abbrev pub is_down : List Own → Bool
is_down [] = false
is_down (o ∷ os) = down_after o.step.act (is_down os)

-- the act in flight after an act, by the one before
abbrev pub flight_after : Act → Option Durable → Option Durable
flight_after (act.Down kept at) before = at
flight_after (act.Restarted kept) before = None
flight_after _ before = before

-- the act in flight of a node that is down
abbrev pub in_flight : List Own → Option Durable
in_flight [] = None
in_flight (o ∷ os) = flight_after o.step.act (in_flight os)

-- ---- stops

-- a record takes this many calls of a disk: the write of its body, a sync, the write of its gate, and a sync
abbrev pub record_calls : ℕ
record_calls = 4

-- from this many on the gate may be on the disk
abbrev pub gate_calls : ℕ
gate_calls = 2

-- the calls that are left once a record took its own
abbrev pub spent : ℕ → ℕ
spent calls = calls - record_calls

-- after an entry: a stop and a restart set how many are left, and each record takes its own; where a restart writes a boot,
-- this is its first record
abbrev pub left_after : (boots : Bool) → Event → Act → Option ℕ → Option ℕ
left_after boots (Stopped calls) act.Armed before = Some calls
left_after boots (Restarted pick calls) (act.Restarted kept) before = if boots then option_map spent calls else calls
left_after boots (Restarted pick calls) (act.Down kept at) before = calls
left_after boots event (act.Durable done) before = option_map spent before
left_after boots event _ before = before

-- how many calls of its disk a stop still lets pass, where the node is armed
abbrev pub calls_left : (boots : Bool) → List Own → Option ℕ
calls_left boots [] = None
calls_left boots (o ∷ os) = left_after boots o.event o.step.act (calls_left boots os)

-- a stop lets fewer calls pass than a record takes
abbrev pub is_short : Option ℕ → Bool
is_short None = false
is_short (Some calls) = nat_lt calls record_calls

-- a record fails where a stop falls on it, or by a fault of the disk itself
abbrev pub fails : (fault : Bool) → Option ℕ → Bool
fails fault left = fault || is_short left

-- what was in flight may be on the disk: a fault failed it, or a stop fell behind the write of its gate
abbrev pub may_stand : Option ℕ → Bool
may_stand None = true
may_stand (Some calls) = nat_le gate_calls calls

-- what a restart may keep, where it is free to
abbrev pub kept_act : (keeps : Bool) → List Own → Option ℕ → Option Durable
kept_act keeps os left = if keeps then (if may_stand left then in_flight os else None) else None

-- ---- steps

-- a durable answer is done, or takes the node down with it; any other is done
abbrev pub written : (failed : Bool) → Step → Act → Step
written failed step (act.Durable flight) = if failed then still (act.Down None (Some flight)) else step
written failed step _ = step

-- the restart of a node that is down: where it writes a boot, this may fail too
abbrev pub restarted : (boots failed : Bool) → Option Durable → Step
restarted true failed kept = if failed then still (act.Down kept (Some durable.Boot)) else still (act.Restarted kept)
restarted false failed kept = still (act.Restarted kept)

-- ---- faults and picks

-- the calls that a stop still lets pass at an event: a restart's own, else those that were left before
abbrev pub left_for : Event → Option ℕ → Option ℕ
left_for (Restarted pick calls) before = calls
left_for event before = before

-- 1 where the node went down at a durable act on which no stop fell, else 0
abbrev pub fault_of : Act → Option ℕ → ℕ
fault_of (act.Down kept (Some at)) left = if is_short left then 0 else 1
fault_of _ left = 0

-- how many entries took the node down by a fault of the disk itself
abbrev pub fault_entries : (boots : Bool) → List Own → ℕ
fault_entries boots [] = 0
fault_entries boots (o ∷ os) = fault_entries boots os + fault_of o.step.act (left_for o.event (calls_left boots os))

-- the last pick after an entry: that of a restart, where it was one, else the one before
abbrev pub pick_after : Event → Act → Option ℕ → Option ℕ
pick_after (Restarted pick calls) act.Nothing before = before
pick_after (Restarted pick calls) done before = Some pick
pick_after event done before = before

-- the pick of the last restart that was one
abbrev pub last_pick : List Own → Option ℕ
last_pick [] = None
last_pick (o ∷ os) = pick_after o.event o.step.act (last_pick os)
