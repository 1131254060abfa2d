use Rattle.local_tables.proofs.EffectRowLaws.{reads_last}
use Rattle.local_tables.proofs.laws.reads_are_the_last.Goals as goal

pub returns : goal.returns
returns c = reads_last
