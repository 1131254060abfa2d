use Rattle.std.proofs.Common.{sym}
use Rattle.lab_words.proofs.Numerals.{not_a_number, number_not_parsed, number_parsed}
use Rattle.lab_words.proofs.numbers.number_of.Goals as goal

pub returns-in-Ok : goal.returns-in-Ok
returns-in-Ok c = number_parsed c.args.text.now (sym c.if-not-is_number.ensures) c.in-Ok.number c.in-Ok.ensures.value.0

pub returns-in-Err : goal.returns-in-Err
returns-in-Err c = number_not_parsed c.args.text.now (sym c.if-not-is_number.ensures) c.in-Err.field-0 c.in-Err.ensures.value.0

pub returns-then-not-is_number : goal.returns-then-not-is_number
returns-then-not-is_number c = not_a_number c.args.text.now (sym c.if-not-is_number.ensures)
