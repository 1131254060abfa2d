use Rattle.seata_types.specs.declared.ids.Place.TheVariants as place
use Rattle.seata_types.specs.declared.messages.Input.TheVariants as input
use Rattle.seata_types.specs.declared.messages.Message.TheVariants as message
use Rattle.seata_types.specs.declared.statuses.BranchKind.TheVariants as kind
use Rattle.history_tests.proofs.Asked.{register_served, served_as}
use Rattle.history_tests.proofs.served.register.Goals as goal

pub returns : goal.returns
returns c =
    served_as c.from_resource.result
    (input.Message (place.Res 1) (message.Register c.xid_of-xid.result 1 c.args.call c.ticket_of-ticket.result kind.At c.no_rows-hold.result c.no_rows-check.result))
    c.from_resource.ensures
    (register_served (place.Res 1) c.xid_of-xid.result c.args.call c.ticket_of-ticket.result kind.At c.no_rows-hold.result c.no_rows-check.result
    c.xid_of-xid.ensures c.requires c.ticket_of-ticket.ensures c.no_rows-hold.ensures c.no_rows-check.ensures)
