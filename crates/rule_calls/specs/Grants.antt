-- What a grant of a branch asks of a resource: the message, and the one open ticket that it is for.
use Rattle.std.specs.Prelude.{List, [], ◌∷◌, Option, Some, None}
use Rattle.seata_types.specs.declared.ids.Leg.{Leg}
use Rattle.seata_types.specs.declared.ids.Place.TheVariants as place
use Rattle.seata_types.specs.declared.ids.Ticket.{Ticket}
use Rattle.seata_types.specs.declared.ids.Xid.{Xid}
use Rattle.seata_types.specs.declared.messages.Input.{Input}
use Rattle.seata_types.specs.declared.messages.Input.TheVariants as input
use Rattle.seata_types.specs.declared.messages.Message.TheVariants as message
use Rattle.seata_types.specs.declared.messages.Registered.TheVariants as registered
use Rattle.local_txn.specs.OpenTickets.{Owner, OfCall, OfLocal, Open}

-- the coordinator grants a ticket this branch
abbrev pub granting : Ticket → Leg → Input
granting t leg = input.Message place.Tc (message.RegisterAnswer t leg.xid (registered.Granted leg.branch))

-- a ticket as that of a call of this transaction, which the rules take the branch to be of
abbrev pub owner_in : Xid → Owner → Owner
owner_in x (OfCall m y c w) = OfCall m x.0 c w
owner_in x (OfLocal k) = OfLocal k

abbrev pub ticket_in : Xid → Open → Open
ticket_in x o = record o { owner = owner_in x o.owner }

-- where it is open, and no other one is
abbrev pub opens_in : Xid → Option Open → List Open
opens_in x None = []
opens_in x (Some o) = ticket_in x o ∷ []
