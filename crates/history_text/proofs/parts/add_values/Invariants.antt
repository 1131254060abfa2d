use Rattle.std.proofs.Common.{◌≡◌, ◌++◌, drop, string_bytes}
use Rattle.history_text.specs.Lines.{more_values_text}
use Rattle.history_text.proofs.parts.add_values.Given as goal

abbrev pub invariant-loop-value : goal.invariant-loop-value
invariant-loop-value l = string_bytes l.out ++ more_values_text l.between (drop l.value-index l.rest) ≡ string_bytes l.initial.out ++ more_values_text l.between l.rest
