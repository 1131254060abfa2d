use Rattle.std.proofs.Common.{◌≤◌, ◌-◌, take, length}
use Rattle.std.specs.Io.KnownBytes.{Appends}
use Rattle.lab_calls.proofs.transfer.write_all.Given as goal

abbrev pub invariant-loop-done : goal.invariant-loop-done
invariant-loop-done g l =
    record {
      within : l.done ≤ length l.text;
      written : Appends (g.K.Sink.state l.initial.sink).written (g.K.Sink.state l.sink).written (take l.done l.text);
      counted : (g.K.Sink.state l.initial.sink).faults ≤ (g.K.Sink.state l.sink).faults;
    }

abbrev pub decreases-loop-done : goal.decreases-loop-done
decreases-loop-done g l = length l.text - l.done
