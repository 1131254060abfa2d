use Rattle.std.proofs.Common.{◌≡◌, Some, arith}
use Rattle.std.proofs.lemmas.Grind.{common_steps}
use Rattle.sql_reader.specs.Texts.{text_at}
use Rattle.sql_reader.proofs.QuotedTexts.{text_utf8}
use Rattle.sql_reader.proofs.quote.text_value.Goals as goal

pub utf8_text-requires : goal.utf8_text-requires
utf8_text-requires c =
    let found : text_at c.args.rest.now ≡ Some (c.in-Some.value.items, c.in-Some._bytes) = grind (arith, common_steps) in
    text_utf8 c.args.rest.now c.in-Some.value.items c.in-Some._bytes c.utf8.rest found
