use Rattle.sql_reader.proofs.AheadConditions.{open-first, open-whole}
use Rattle.sql_reader.proofs.SpelledTexts.{reading-spelled}
use Rattle.sql_reader.proofs.laws.parentheses_change_nothing.Goals as goal

pub returns : goal.returns
returns c = record { text = reading-spelled; fact = open-first; whole = open-whole }
