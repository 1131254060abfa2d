use Rattle.std.proofs.Common.{◌≡◌, ◌-◌, ◌≤◌, ◌++◌, length, drop, map}
use Rattle.sql_reader.specs.Lexing.{starts}
use Rattle.sql_reader.proofs.lexing.places.Given as goal

abbrev pub invariant-loop-at : goal.invariant-loop-at
invariant-loop-at l = record {
  places : l.places.items ++ map (λ z. length l.text - length z) (starts (drop l.at l.text)) ≡ map (λ z. length l.text - length z) (starts l.text);
  within : l.at ≤ length l.text;
}

abbrev pub decreases-loop-at : goal.decreases-loop-at
decreases-loop-at l = length l.text - l.at
