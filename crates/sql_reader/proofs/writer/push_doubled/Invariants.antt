use Rattle.std.proofs.Common.{◌≡◌, ◌++◌}
use Rattle.std.specs.Prelude.{encode_utf8_all, string_bytes}
use Rattle.sql_reader.specs.Canonical.{doubled}
use Rattle.sql_reader.proofs.writer.push_doubled.Given as goal

abbrev pub invariant-loop-c : goal.invariant-loop-c
invariant-loop-c l = string_bytes l.text ≡ string_bytes l.initial.text ++ doubled (encode_utf8_all l.yielded)
