use denote.Param.Send.{param_send, param_sync, arg_send, shr_send, struct_send, recorded_send, enum_send}
use Rattle.std.proofs.Crossing.{crosses, send as heap_send}
use Rattle.link_queue.proofs.Sendable.{send_seat_send}
use Rattle.history_tests.proofs.errors.Fail.TheSendSync.{the_send as fail_send}
use Rattle.history_tests.proofs.links.goes_over.Goals as goal

pub join-filled-requires-send-F : goal.join-filled-requires-send-F
join-filled-requires-send-F c κs =
    λ ls w. search (param_send, param_sync, arg_send, recorded_send, struct_send, shr_send, heap_send, crosses, send_seat_send) depth 20

pub join-filled-requires-send-A : goal.join-filled-requires-send-A
join-filled-requires-send-A c κs = λ ls w. search (param_send, arg_send, recorded_send, enum_send, crosses, fail_send, send_seat_send) depth 20
