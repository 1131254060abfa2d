-- A node with its trace: there are moments whose entries the trace is, legal for the node alone, and the node is what they replay to.
use Rattle.std.specs.Prelude.{◌≡◌, ◌<◌, ◌≤◌, ℕ, Bool, true, false, List, All, Option, Some, None, IfSome}
use Rattle.seata_types.specs.declared.ids.Place.{Place}
use Rattle.seata_types.specs.declared.ids.Place.TheVariants as place
use Rattle.seata_types.specs.declared.limits.TheConstants.{LATEST_MOMENT}
use Rattle.seata_types.specs.declared.messages.Input.{Input}
use Rattle.seata_types.specs.declared.messages.Input.TheVariants as input
use Rattle.history_rules.specs.Nodes.{Role}
use Rattle.history_rules.specs.Histories.{Moment, own}
use Rattle.trace_rules.specs.Traces.{Alone}
use Rattle.node_steps.specs.Framing.{ComesFramable}
use Rattle.node_steps.specs.Nodes.{NodeState, place_of}
use Rattle.history_text.specs.declared.entries.Cause.{Cause}
use Rattle.history_text.specs.declared.entries.Cause.TheVariants as cause
use Rattle.history_text.specs.declared.entries.Entry.{Entry}
use Rattle.history_text.specs.History.{entries}
use Rattle.node_seat.specs.Entering.{CanReact}

-- these moments are of a node of this role, which they replay to, and the trace is what is printed of them
pub record Keeps (node : NodeState) (trace : List Entry) (role : Role) (ms : List Moment) : Type 0 where
  pub printed : trace ≡ entries ms
  pub alone : Alone role (place_of role) ms
  pub stands : node.stands_for role (own (place_of role) ms)

-- what a cause gives to a node: a turn, a message that was sent at a lesser stamp by the place that it names, a local
-- transaction, or what happens to its disks
abbrev pub IsInputOf : (stamp : ℕ) → Cause → Option Input → Type 0
IsInputOf stamp cause.Turn (Some input.Turn) = Unit {0}
IsInputOf stamp (cause.Deliver sent from) (Some (input.Message sender heard)) = (sent < stamp) × (sender ≡ from)
IsInputOf stamp (cause.Local number) (Some (input.Local given)) = given ≡ number
IsInputOf stamp (cause.Outside number) (Some (input.Outside given)) = given ≡ number
IsInputOf stamp (cause.Stop calls) None = Unit {0}
IsInputOf stamp cause.Crash None = Unit {0}
IsInputOf stamp (cause.Restart pick calls) None = Unit {0}
IsInputOf stamp _ _ = ⊥

-- an entry with this stamp and moment may come behind an older one
pub record IsBehind (stamp now : ℕ) (older : Entry) : Type 0 where
  pub stamp_rises : older.stamp < stamp
  pub clock_rises : older.now ≤ now

-- the next entry of a trace may have this stamp, moment, cause and input
pub record IsNext (trace : List Entry) (stamp now : ℕ) (why : Cause) (given : Option Input) : Type 0 where
  pub behind : All (IsBehind stamp now) trace
  pub input : IsInputOf stamp why given

-- what an entry of a node asks: it may come next, and the node can be given this, which can be framed, at a moment that a clock shows
pub record MayEnter (node : NodeState) (trace : List Entry) (stamp now : ℕ) (why : Cause) (given : Option Input) : Type 0 where
  pub next : IsNext trace stamp now why given
  pub can : CanReact node why given
  pub moment : now ≤ LATEST_MOMENT
  pub framable : IfSome given ComesFramable

-- disks stand at a place
abbrev pub have_disks : Place → Bool
have_disks place.Tc = true
have_disks (place.Res n) = true
have_disks p = false
