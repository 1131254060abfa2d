use Rattle.std.proofs.Common.{◌≡◌, drop}
use Rattle.lab_words.specs.Grammar.{nothing}
use Rattle.lab_words.specs.Seen.{seen_reading, settled}
use Rattle.lab_words.proofs.Spelling.{rest}
use Rattle.lab_words.proofs.reading.options_of.Given as goal

abbrev pub invariant-loop-word : goal.invariant-loop-word
invariant-loop-word l = rest (seen_reading l.reading) (drop l.word-index l.words) ≡ rest (settled nothing) l.words
