use Rattle.std.proofs.Common.{◌≡◌, ◌-◌, ◌≤◌, length, drop}
use Rattle.sql_reader.specs.Texts.{text_at, behind}
use Rattle.sql_reader.proofs.quote.value_bytes.Given as goal

abbrev pub invariant-loop-at : goal.invariant-loop-at
invariant-loop-at l = (behind l.value.items l.at (text_at (drop l.at l.z)) ≡ text_at l.z) × (l.at ≤ length l.z)

abbrev pub decreases-loop-at : goal.decreases-loop-at
decreases-loop-at l = length l.z - l.at
