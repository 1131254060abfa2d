use Rattle.std.proofs.Common.{◌≡◌, length, map}
use Rattle.sql_reader.specs.Lexing.{listed_as}
use Rattle.sql_reader.proofs.lexing.listed_as.Given as goal

abbrev pub invariant-loop-table : goal.invariant-loop-table
invariant-loop-table l = listed_as (map (λ k. (k.0.now, k.1)) l.table) l.word ≡ listed_as (map (λ k. (k.0.now, k.1)) l.initial.table) l.word

abbrev pub decreases-loop-table : goal.decreases-loop-table
decreases-loop-table l = length l.table
