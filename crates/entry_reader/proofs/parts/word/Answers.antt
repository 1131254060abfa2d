use Rattle.std.proofs.Common.{◌≡◌, true, nat_lt, arith}
use Rattle.std.specs.List.{list_all}
use Rattle.std.proofs.lemmas.Grind.{common_steps}
use Rattle.entry_reader.proofs.Ascii.{ascii_text}
use Rattle.entry_reader.proofs.parts.word.Goals as goal

pub returns-in-Err : goal.returns-in-Err
returns-in-Err c =
    let plain : list_all (λ b. nat_lt b 128) c.args.text.now ≡ true = grind (arith, common_steps) in
    absurd (c.in-Err.ensures.cases.0 (ascii_text c.args.text.now plain))
