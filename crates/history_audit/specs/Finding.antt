-- What is found of an entry that stands in order: the step that is done, or the rule of its cause or of its act that it breaks.
use Rattle.std.specs.Prelude.{List, ◌∷◌, Option, Some, None}
use Rattle.seata_types.specs.declared.messages.Step.{Step}
use Rattle.history_rules.specs.Nodes.{World, no_past}
use Rattle.history_rules.specs.Histories.{Moment}
use Rattle.history_text.specs.declared.entries.Entry.{Entry}
use Rattle.verdict_law.specs.declared.rules.Rule.TheVariants as rule
use Rattle.verdict_law.specs.Verdicts.{Comes, Does, moment_at}
use Rattle.history_audit.specs.declared.kept.Found.{Found}
use Rattle.history_audit.specs.declared.kept.Found.TheVariants as found

-- by the step that a node does with the act of an entry, if it does one
abbrev pub found_of : Option Step → Found
found_of (Some step) = found.Does step
found_of None = found.Breaks rule.Act

-- after these moments: a step, after which what is kept is of one moment more; or the first rule that is broken
abbrev pub Finds : World → List Moment → Entry → (List Moment → Type 0) → Found → Type 0
Finds w ms e Keeps (found.Does step) = Comes w no_past ms e × Does w no_past ms e step × Keeps (moment_at ms e step ∷ ms)
Finds w ms e Keeps (found.Breaks rule.Cause) = Comes w no_past ms e → ⊥
Finds w ms e Keeps (found.Breaks rule.Act) = Comes w no_past ms e × ((step : Step) → Does w no_past ms e step → ⊥)
Finds w ms e Keeps (found.Breaks _) = ⊥
