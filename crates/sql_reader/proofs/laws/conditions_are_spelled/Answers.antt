use Rattle.sql_reader.proofs.Spelled.{spelled-reads}
use Rattle.sql_reader.proofs.SpellingOf.{spelled-so}
use Rattle.sql_reader.proofs.laws.conditions_are_spelled.Goals as goal

pub returns : goal.returns
returns c = record { read = spelled-reads; spelled = spelled-so }
