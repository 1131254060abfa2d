use denote.Param.Send.{param_send, arg_send}
use Rattle.manager_core.proofs.Sendable.{manager_send}
use Rattle.resource_core.proofs.Sendable.{resource_send}
use Rattle.run_rounds.proofs.rounds.rounds.Goals as goal

pub round-requires-send-S : goal.round-requires-send-S
round-requires-send-S c κs = λ ls w. search (param_send, arg_send, resource_send) depth 12

pub round-requires-send-M : goal.round-requires-send-M
round-requires-send-M c κs = λ ls w. search (param_send, arg_send, manager_send) depth 12
