use Rattle.std.proofs.Common.{◌≡◌, ◌-◌, ◌^◌, ◌≤◌, min, drop}
use Rattle.entry_reader.specs.Parts.{number_on}
use Rattle.entry_reader.proofs.parts.number.Given as goal

abbrev pub invariant-loop-digit : goal.invariant-loop-digit
invariant-loop-digit l = record {
  number : min (number_on l.number (drop l.digit-index l.text)) (2 ^ 64 - 1) ≡ min (number_on 0 l.text) (2 ^ 64 - 1);
  bounded : l.number ≤ 2 ^ 64 - 1;
}
