-- A legal history makes each chain longer that it may follow, so it is safe after it.
use Rattle.std.proofs.Common.{List, [], ◌∷◌}
use Rattle.history_rules.specs.Nodes.{World, Past}
use Rattle.history_rules.specs.Histories.{Moment, Legal}
use Rattle.history_rules.specs.Chains.{IsChain}
use Rattle.history_law.specs.ChainSafety.{MayFollow, SafetyAfterChains}
use Rattle.history_law.proofs.SafetyHistory.{safety_of_chains}

pub longer_chain : (w : World) (chain : List (Past × List Moment)) (past : Past) (ms : List Moment) → IsChain w chain → MayFollow w chain past → Legal w past ms → IsChain w ((past, ms) ∷ chain)
longer_chain w [] past ms chained may legal = (may, legal)
longer_chain w ((before, hs) ∷ rest) past ms chained may legal = (chained, may, legal)

pub safety_after_chains : SafetyAfterChains
safety_after_chains w past ms is legal chain chained may = safety_of_chains w ((past, ms) ∷ chain) is (longer_chain w chain past ms chained may legal)
