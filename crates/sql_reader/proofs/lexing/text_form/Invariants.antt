use Rattle.std.proofs.Common.{◌≡◌, ℕ, List, ◌-◌, ◌≤◌, length, drop}
use Rattle.std.specs.List.{list_all}
use Rattle.sql_reader.specs.Texts.{text_at, behind}
use Rattle.sql_reader.specs.Lexing.{is_printable}
use Rattle.sql_reader.proofs.lexing.text_form.Given as goal

abbrev pub invariant-loop-at : goal.invariant-loop-at
invariant-loop-at l = record {
  value : List ℕ;
  so_far : behind value l.at (text_at (drop l.at l.z)) ≡ text_at l.z;
  count : l.len ≡ length value;
  plain : l.is_plain ≡ list_all is_printable value;
  within : l.at ≤ length l.z;
  few : l.len ≤ l.at;
}

abbrev pub decreases-loop-at : goal.decreases-loop-at
decreases-loop-at l = length l.z - l.at
