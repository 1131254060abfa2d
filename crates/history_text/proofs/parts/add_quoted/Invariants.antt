use Rattle.std.proofs.Common.{◌≡◌, ◌++◌, length, string_bytes}
use Rattle.std.specs.Prelude.{IsUtf8}
use Rattle.history_text.specs.Lines.{quoted}
use Rattle.history_text.proofs.parts.add_quoted.Given as goal

abbrev pub invariant-loop-before : goal.invariant-loop-before
invariant-loop-before l =
    record { written : string_bytes l.out ++ quoted l.rest ≡ string_bytes l.initial.out ++ quoted l.initial.rest; is_text : IsUtf8 l.rest }

abbrev pub decreases-loop-before : goal.decreases-loop-before
decreases-loop-before l = length l.rest
