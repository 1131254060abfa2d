use Rattle.seata_types.specs.declared.ids.Place.TheVariants as place
use Rattle.seata_types.specs.declared.messages.Input.TheVariants as input
use Rattle.seata_types.specs.declared.messages.Message.TheVariants as message
use Rattle.history_tests.proofs.Asked.{served_as}
use Rattle.history_tests.proofs.served.roll_back.Goals as goal

pub returns : goal.returns
returns c =
    served_as c.from_manager.result (input.Message (place.Man c.args.number) (message.GlobalRollback c.xid_of-xid.result)) c.from_manager.ensures
    (record { framable = record { layout = c.xid_of-xid.ensures; limits = tt }; numbers = tt })
