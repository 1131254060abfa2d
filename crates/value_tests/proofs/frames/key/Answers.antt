use Rattle.std.proofs.Common.{refl, ◌∙◌, arith}
use Rattle.byte_fields.proofs.Texts.{is_plain_printable}
use Rattle.value_tests.proofs.KeyParts.{two_numbers}
use Rattle.value_tests.proofs.frames.key.Goals as goal

pub returns-clause-layout : goal.returns-clause-layout
returns-clause-layout c = record {
  resource = omega arith;
  table = rw (c.of-table.ensures ∙ c.in_ok-from_str.ensures.ok) (record { short = omega arith; plain = is_plain_printable _ refl });
  pk = two_numbers _ _ _ (record { sfits = omega arith }) (record { sfits = omega arith }) (c.of.ensures ∙ c.in_ok-from_array.ensures.items);
}
