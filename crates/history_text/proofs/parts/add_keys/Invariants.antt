use Rattle.std.proofs.Common.{◌≡◌, ◌++◌, drop, string_bytes}
use Rattle.history_text.specs.Lines.{more_keys_text}
use Rattle.history_text.proofs.parts.add_keys.Given as goal

abbrev pub invariant-loop-key : goal.invariant-loop-key
invariant-loop-key l =
    string_bytes l.out ++ more_keys_text l.table (drop l.key-index l.rest) ≡ string_bytes l.initial.out ++ more_keys_text l.initial.table l.rest
