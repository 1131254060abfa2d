-- The names of rules.
use Rattle.std.specs.Prelude.{ℕ, List, codes}
use Rattle.verdict_law.specs.declared.rules.Rule.{Rule}
use Rattle.verdict_law.specs.declared.rules.Rule.TheVariants as rule

-- a rule as it is printed
abbrev pub rule_text : Rule → List ℕ
rule_text rule.Stamp = codes "stamp"
rule_text rule.Clock = codes "clock"
rule_text rule.Cause = codes "cause"
rule_text rule.Act = codes "act"
rule_text rule.Sent = codes "sent"
