use Rattle.std.proofs.Common.{length}
use Rattle.report_judge.proofs.Readings.{HasRead}
use Rattle.report_judge.proofs.reading.read_lines.Given as goal

abbrev pub invariant-loop-left : goal.invariant-loop-left
invariant-loop-left l = HasRead l.fn.names l.fn.text l.entries.items l.number l.left

abbrev pub decreases-loop-left : goal.decreases-loop-left
decreases-loop-left l = length l.left
