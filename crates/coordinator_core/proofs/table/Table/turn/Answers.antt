use Rattle.std.proofs.Common.{◌∙◌, sym}
use Rattle.seata_types.specs.declared.messages.Input.TheVariants as input
use Rattle.session_store.specs.Keeping.{managers_of, resources_of}
use Rattle.coordinator_core.specs.Answers.{IsWithin}
use Rattle.coordinator_core.proofs.Made.{is_made}
use Rattle.coordinator_core.proofs.Taken.{taken_answers}
use Rattle.coordinator_core.proofs.Turning.{asks_here, input_ruled, never_asked}
use Rattle.coordinator_core.proofs.table.Table.turn.Goals as goal

pub take-requires-clause-asked : goal.take-requires-clause-asked
take-requires-clause-asked g c =
    let is = input_ruled c.args.self.now input.Turn c.memory-memory.result.now c.args.now c.turn-answer.result c.memory-memory.ensures c.turn-answer.ensures in
    is_made c.args.self.now c.args.now input.Turn tt c.turn-answer.result.step.act c.turn-answer.result.asked is.ruled.recorded

pub returns-then-asks_nodes : goal.returns-then-asks_nodes
returns-then-asks_nodes g c =
    let is = input_ruled c.args.self.now input.Turn c.memory-memory.result.now c.args.now c.turn-answer.result c.memory-memory.ensures c.turn-answer.ensures in
    taken_answers g.D.Disk.state (IsWithin c.args.self.now) c.args.self.now c.take.new.self input.Turn c.args.now c.turn-answer.result is.ruled
    (is.sent (managers_of c.args.self.now.sessions) (resources_of c.args.self.now.sessions)
    (asks_here c.args.self.now c.turn-answer.result _ _ c.machine-machine.ensures.managers c.machine-machine.ensures.resources (sym c.asks_nodes.ensures ∙ c.if-asks_nodes.true)))
    c.take.result c.take.ensures.taken

pub returns : goal.returns
returns g c =
    let is = input_ruled c.args.self.now input.Turn c.memory-memory.result.now c.args.now c.turn-answer.result c.memory-memory.ensures c.turn-answer.ensures in
    never_asked c.args.self.now g.D.Disk.state c.args.now c.turn-answer.result is _ _ c.machine-machine.ensures.managers c.machine-machine.ensures.resources (sym c.asks_nodes.ensures ∙ c.if-asks_nodes.false) c.still.result c.still.ensures.value
