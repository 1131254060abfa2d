-- What is safe of a history on disks that earlier histories left.
use Rattle.std.specs.Prelude.{List, [], ◌∷◌}
use Rattle.history_rules.specs.Nodes.{World, Past}
use Rattle.history_rules.specs.Histories.{Moment, Legal}
use Rattle.history_rules.specs.Chains.{IsChain, IsBlankPast, MayLeave}
use Rattle.history_law.specs.Points.{InEachHistory}
use Rattle.history_law.specs.Safety.{IsScenario, IsSafeHistory}

-- records that the disks may have after a chain: what its last history may leave; after an empty one none but boots
abbrev pub MayFollow : World → List (Past × List Moment) → Past → Type 0
MayFollow w [] past = IsBlankPast past
MayFollow w ((before, ms) ∷ rest) past = MayLeave w before ms past

-- with each chain that this history over these records may follow, it is safe, and so is each history of that chain
abbrev pub IsSafeAfterChains : World → Past → List Moment → Type 0
IsSafeAfterChains w past ms =
    (chain : List (Past × List Moment)) → IsChain w chain → MayFollow w chain past → InEachHistory (IsSafeHistory w) ((past, ms) ∷ chain)

-- each legal history, over any records
abbrev pub SafetyAfterChains : Type 0
SafetyAfterChains = (w : World) (past : Past) (ms : List Moment) → IsScenario w → Legal w past ms → IsSafeAfterChains w past ms
