use Rattle.std.proofs.Common.{◌∙◌, sym, ap}
use Rattle.seata_types.specs.declared.ids.Leg.{Leg}
use Rattle.session_log.specs.declared.keys.TicketKey.{TicketKey}
use Rattle.std.specs.BTreeMap.{insert_entry}
use Rattle.session_memory.specs.Owners.{ticket_order}
use Rattle.session_memory.proofs.OwnerLaws.{put_at}
use Rattle.session_memory.proofs.owners.TicketOwners.put.Goals as goal

pub returns-in_ok-set-clause-owned : goal.returns-in_ok-set-clause-owned
returns-in_ok-set-clause-owned c =
    (put_at c.args.self.now c.set.new.self c.args.xid c.args.branch.now (sym c.is_at.ensures ∙ c.if-is_at.true)
    (c.in_ok-set.ensures.ok ∙ ap (λ (k : TicketKey). insert_entry ticket_order c.args.self.now k c.leg_of.result) c.key_of.ensures
    ∙ ap (λ (leg : Leg). insert_entry ticket_order c.args.self.now (record { resource = c.args.branch.now.place.resource; ticket = c.args.branch.now.place.ticket }) leg) c.leg_of.ensures)).0

pub returns-in_ok-set-clause-others : goal.returns-in_ok-set-clause-others
returns-in_ok-set-clause-others c =
    (put_at c.args.self.now c.set.new.self c.args.xid c.args.branch.now (sym c.is_at.ensures ∙ c.if-is_at.true)
    (c.in_ok-set.ensures.ok ∙ ap (λ (k : TicketKey). insert_entry ticket_order c.args.self.now k c.leg_of.result) c.key_of.ensures
    ∙ ap (λ (leg : Leg). insert_entry ticket_order c.args.self.now (record { resource = c.args.branch.now.place.resource; ticket = c.args.branch.now.place.ticket }) leg) c.leg_of.ensures)).1
