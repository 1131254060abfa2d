use denote.Param.Send.{param_sync, arg_sync, shr_sync, struct_sync, recorded_sync}
use Rattle.std.proofs.Crossing.{crosses, sync as heap_sync}
use Rattle.run_rounds.proofs.Sendable.{locks_sync}
use Rattle.run_rounds.proofs.rounds.work_all.Goals as goal

pub for_each_mut-requires-sync-F : goal.for_each_mut-requires-sync-F
for_each_mut-requires-sync-F c κs =
    λ ls w. search (param_sync, arg_sync, recorded_sync, struct_sync, shr_sync, heap_sync, crosses, locks_sync) depth 20
