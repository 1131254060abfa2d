use Rattle.std.proofs.Common.{◌≡◌, drop}
use Rattle.entry_reader.specs.Writable.{rises_behind}
use Rattle.entry_reader.proofs.writable.rises.Given as goal

abbrev pub invariant-loop-key : goal.invariant-loop-key
invariant-loop-key l = rises_behind l.last (drop l.key-index l.rest) ≡ rises_behind l.initial.last l.rest
