use Rattle.std.proofs.Common.{◌≡◌, ◌-◌, ◌^◌, ◌≤◌, min, drop}
use Rattle.sql_reader.specs.Lexing.{number_after}
use Rattle.sql_reader.proofs.lexing.number.Given as goal

abbrev pub invariant-loop-digit : goal.invariant-loop-digit
invariant-loop-digit l =
    (min (number_after l.number (drop l.digit-index l.digits)) (2 ^ 64 - 1) ≡ min (number_after 0 l.digits) (2 ^ 64 - 1)) × (l.number ≤ 2 ^ 64 - 1)
