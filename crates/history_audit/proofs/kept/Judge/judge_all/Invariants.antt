use Rattle.std.proofs.Common.{[], take}
use Rattle.scenario_form.specs.Runnable.{IsRunnable}
use Rattle.history_text.specs.Worlds.{world_of}
use Rattle.history_audit.specs.Judging.{Follows, HasTaken}
use Rattle.history_audit.proofs.kept.Judge.judge_all.Given as goal

abbrev pub invariant-loop-k : goal.invariant-loop-k
invariant-loop-k l = (s : _) → IsRunnable s → Follows (world_of s) l.initial.self [] → HasTaken (world_of s) l.self (take l.k l.entries)
