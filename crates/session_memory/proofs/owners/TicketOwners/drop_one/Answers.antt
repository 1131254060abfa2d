use Rattle.std.proofs.Common.{◌∙◌, sym}
use Rattle.session_memory.proofs.OwnerLaws.{dropped}
use Rattle.session_memory.proofs.owners.TicketOwners.drop_one.Goals as goal

pub returns-then-is_of : goal.returns-then-is_of
returns-then-is_of c = dropped c.args.self.now c.unset.new.self c.args.xid c.args.key (sym c.is_of.ensures ∙ c.if-is_of.true) c.unset.ensures
