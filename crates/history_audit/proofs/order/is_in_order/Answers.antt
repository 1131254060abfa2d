use Rattle.std.proofs.Common.{◌∙◌, ap}
use Rattle.history_audit.specs.Order.{is_above}
use Rattle.history_audit.proofs.Orders.{and_else, and_then, in_order}
use Rattle.history_audit.proofs.order.is_in_order.Goals as goal

pub returns-then-is_above : goal.returns-then-is_above
returns-then-is_above c =
    in_order c.args.newest c.args.next.now c.is_received_later.result
    (and_then _ _ c.is_above.result c.is_received_later.result (c.is_above.ensures ∙ ap (is_above c.args.newest) c.origin_of-at.ensures) c.if-is_above.true c.is_received_later.ensures)

pub returns-else-is_above : goal.returns-else-is_above
returns-else-is_above c =
    in_order c.args.newest c.args.next.now c.is_above.result (and_else _ _ c.is_above.result (c.is_above.ensures ∙ ap (is_above c.args.newest) c.origin_of-at.ensures) c.if-is_above.false)
