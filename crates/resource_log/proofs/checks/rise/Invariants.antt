use Rattle.std.proofs.Common.{◌≡◌, drop, None}
use Rattle.std.specs.Option.{option_copied}
use Rattle.resource_log.specs.Soundness.{rises_after}
use Rattle.resource_log.proofs.checks.rise.Given as goal

abbrev pub invariant-loop-key : goal.invariant-loop-key
invariant-loop-key l = rises_after (option_copied l.last) (drop l.key-index l.keys) ≡ rises_after None l.keys
