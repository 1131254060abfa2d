use Rattle.std.proofs.Common.{drop}
use Rattle.memory_store.proofs.Replaying.{GoesOver}
use Rattle.memory_store.proofs.reading.replay.Given as goal

abbrev pub invariant-loop-record : goal.invariant-loop-record
invariant-loop-record g l = record {
  over : GoesOver (g.M.StateMachine.meaning l.machine) l.initial.memory l.from l.records l.memory l.at (drop l.record-index l.records);
  sound : (g.M.StateMachine.meaning l.machine).IsSound l.initial.memory → (g.M.StateMachine.meaning l.machine).IsSound l.memory;
}
