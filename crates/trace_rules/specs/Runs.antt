-- Runs: which histories follow the rules of nodes that run by themselves, and which traces merge to such a history.
use Rattle.std.specs.Prelude.{◌≡◌, List, Some}
use Rattle.seata_types.specs.declared.ids.Place.{Place}
use Rattle.history_rules.specs.CoordinatorMemory.{start}
use Rattle.history_rules.specs.Nodes.{Role, World, Past, role_at}
use Rattle.history_rules.specs.Histories.{Moment, Legal}
use Rattle.trace_rules.specs.Traces.{AreAlone, traces_of}
use Rattle.trace_rules.specs.Merged.{IsMergeOf}
use Rattle.trace_rules.specs.Links.{EachLink, IsHeard, Taken, Within}
use Rattle.trace_rules.specs.Stops.{HasBegun, NodeStop, RunsAlone}

-- each node runs by itself, with its stops; the coordinator's clock begins at its start
abbrev pub EachRuns : Past → (Place → List NodeStop) → (Place → List Moment) → Type 0
EachRuns past stops traces = (p : Place) → RunsAlone (stops p) (start past.sessions) p (traces p)

-- each node with stops made its first entry
abbrev pub AreBegun : World → Past → (Place → List NodeStop) → (Place → List Moment) → Type 0
AreBegun w past stops traces = (p : Place) (role : Role) → role_at w past p ≡ Some role → HasBegun (stops p) (traces p)

-- a history follows the rules of a run with these stops of each node
pub record FollowsRun (w : World) (past : Past) (stops : Place → List NodeStop) (ms : List Moment) : Type 0 where
  pub nodes : EachRuns past stops (traces_of ms)
  pub begun : AreBegun w past stops (traces_of ms)
  pub taken : EachLink Taken (traces_of ms)

-- the history of a run that ended by a fault: a node may not have begun, and messages may be lost in any number
pub record IsBrokenRun (w : World) (past : Past) (stops : Place → List NodeStop) (ms : List Moment) : Type 0 where
  pub legal : Legal w past ms
  pub nodes : EachRuns past stops (traces_of ms)
  pub taken : EachLink Within (traces_of ms)

-- traces that are legal each for itself, and whose nodes received only what the others sent them, in that order and none twice, merge to a
-- legal history
abbrev pub MergesLegally : Type 0
MergesLegally = (w : World) (past : Past) (traces : Place → List Moment) (ms : List Moment)
    → IsMergeOf traces ms → AreAlone w past traces → EachLink Within traces → Legal w past ms

-- where each node runs by itself, and received of each other the first of what went over their link, that history follows a run
abbrev pub MergesToRun : Type 0
MergesToRun = (w : World) (past : Past) (stops : Place → List NodeStop) (traces : Place → List Moment) (ms : List Moment)
    → IsMergeOf traces ms → AreAlone w past traces → EachLink IsHeard traces → EachRuns past stops traces
    → AreBegun w past stops traces → Legal w past ms × FollowsRun w past stops ms
