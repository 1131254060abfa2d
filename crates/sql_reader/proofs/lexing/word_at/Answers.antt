use Rattle.std.proofs.Common.{◌≡◌, drop, arith}
use Rattle.std.proofs.lemmas.Grind.{common_steps}
use Rattle.std.specs.List.{prefix_len}
use Rattle.sql_reader.specs.Lexing.{is_word_byte}
use Rattle.sql_reader.proofs.Words.{word_end}
use Rattle.sql_reader.proofs.lexing.word_at.Goals as goal

pub range-requires-clause-end_boundary : goal.range-requires-clause-end_boundary
range-requires-clause-end_boundary c =
    let long : c.word_len-len.result ≡ prefix_len is_word_byte (drop c.args.at c.args.text.now) = grind (arith, common_steps) in
    word_end c.args.text.now c.args.at c.word_len-len.result c.utf8.text c.requires.inside c.requires.letter long
