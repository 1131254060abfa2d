use Rattle.std.proofs.Common.{◌≡◌, ◌-◌, ◌≤◌, ◌++◌, length, drop, map}
use Rattle.sql_reader.specs.Lexing.{starts, token_at}
use Rattle.sql_reader.proofs.lexing.lex.Given as goal

abbrev pub invariant-loop-at : goal.invariant-loop-at
invariant-loop-at l = record {
  tokens : l.tokens.items ++ map (λ z. (token_at z).0) (starts (drop l.at l.text)) ≡ map (λ z. (token_at z).0) (starts l.text);
  within : l.at ≤ length l.text;
}

abbrev pub decreases-loop-at : goal.decreases-loop-at
decreases-loop-at l = length l.text - l.at
