use Rattle.std.proofs.Common.{◌∙◌, sym, ap}
use Rattle.std.specs.Option.{option_copied}
use Rattle.history_rules.specs.ResourceMemory.{effect_on, or_empty}
use Rattle.report_text.proofs.EffectsOfNone.{no_statements}
use Rattle.report_text.proofs.records.effect_of.Goals as goal

pub returns-in-None : goal.returns-in-None
returns-in-None c =
    c.no_effect.ensures ∙ sym (no_statements c.args.tables.now) ∙ ap (λ run. effect_on c.args.tables.now (or_empty (option_copied run))) (sym c.in-None.is)
