use Rattle.entry_reader.proofs.EntryTexts.{reads_back}
use Rattle.entry_reader.proofs.laws.printed_lines_read_back.Goals as goal

pub returns : goal.returns
returns c = reads_back
