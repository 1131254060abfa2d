use Rattle.std.proofs.Common.{◌≡◌, ◌-◌, ◌^◌, ◌≤◌, min, drop}
use Rattle.scenario_reader.specs.Numbers.{number_after}
use Rattle.scenario_reader.proofs.numbers.number_of_text.Given as goal

abbrev pub invariant-loop-digit : goal.invariant-loop-digit
invariant-loop-digit l =
    (min (number_after l.number (drop l.digit-index l.digits)) (2 ^ 64 - 1) ≡ min (number_after 0 l.digits) (2 ^ 64 - 1)) × (l.number ≤ 2 ^ 64 - 1)
