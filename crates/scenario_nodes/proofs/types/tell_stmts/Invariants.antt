use Rattle.std.specs.Prelude.{IsUtf8}
use Rattle.sql_reader.specs.Canonical.{canonical_text}
use Rattle.scenario_nodes.proofs.Passes.{AllBefore}
use Rattle.scenario_nodes.proofs.types.tell_stmts.Given as goal

abbrev pub invariant-loop-stmt : goal.invariant-loop-stmt
invariant-loop-stmt l = AllBefore (λ s. IsUtf8 (canonical_text s)) l.stmts l.stmt-index
