use Rattle.seata_types.specs.declared.ids.Place.TheVariants as place
use Rattle.seata_types.specs.declared.messages.Input.TheVariants as input
use Rattle.seata_types.specs.declared.messages.Message.TheVariants as message
use Rattle.history_tests.proofs.Asked.{begin_served, served_as}
use Rattle.history_tests.proofs.served.begun.Goals as goal

pub returns : goal.returns
returns c =
    served_as c.from_manager.result (input.Message (place.Man c.args.manager) (message.Begin c.args.manager c.args.timeout)) c.from_manager.ensures
    (begin_served (place.Man c.args.manager) c.args.manager c.args.timeout c.requires.manager c.requires.timeout)
