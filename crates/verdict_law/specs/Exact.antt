-- That entries have one verdict, and what follows from a good one.
use Rattle.std.specs.Prelude.{◌≡◌, ℕ, List, Option}
use Rattle.history_rules.specs.Nodes.{World, Past}
use Rattle.history_rules.specs.Histories.{Moment, Legal}
use Rattle.history_rules.specs.Chains.{IsBlankPast}
use Rattle.history_law.specs.Safety.{IsScenario, IsSafeHistory}
use Rattle.history_text.specs.declared.entries.Entry.{Entry}
use Rattle.history_text.specs.History.{entries}
use Rattle.verdict_law.specs.declared.rules.Rule.{Rule}
use Rattle.verdict_law.specs.Verdicts.{AreLegal, BreakAt, IsVerdict}

-- entries one of which breaks a rule after those before it are those of no legal history
abbrev pub VerdictsAreExact : Type 0
VerdictsAreExact = (w : World) (past : Past) (es : List Entry) (k : ℕ) (broken : Rule) → BreakAt w past es k broken → AreLegal w past es → ⊥

-- two verdicts on the same entries are the same
abbrev pub VerdictsAgree : Type 0
VerdictsAgree = (w : World) (past : Past) (es : List Entry) (v u : Option (ℕ × Rule)) → IsVerdict w past es v → IsVerdict w past es u → v ≡ u

-- these are the entries of a safe history
pub record AreSafe (w : World) (past : Past) (es : List Entry) : Type 0 where
  pub history : List Moment
  pub legal : Legal w past history
  pub printed : entries history ≡ es
  pub safe : IsSafeHistory w past history

-- entries that are legal over disks without records are such
abbrev pub YesIsSafe : Type 0
YesIsSafe = (w : World) (past : Past) (es : List Entry) → IsScenario w → IsBlankPast past → AreLegal w past es → AreSafe w past es
