use Rattle.std.proofs.Common.{◌≤◌, ◌+◌, ◌-◌, length, drop}
use Rattle.frame_codec.specs.Feeding.{FramesIn}
use Rattle.frame_codec.proofs.scanning.scan.Given as goal

abbrev pub invariant-loop-frames : goal.invariant-loop-frames
invariant-loop-frames l = (l.used ≤ length l.bytes) × FramesIn l.at l.bytes l.frames.items (l.at + l.used) (drop l.used l.bytes)

abbrev pub decreases-loop-frames : goal.decreases-loop-frames
decreases-loop-frames l = length l.bytes - l.used
