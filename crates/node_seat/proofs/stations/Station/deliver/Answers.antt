use Rattle.std.proofs.Common.{Some, subst, sym}
use Rattle.seata_types.specs.declared.messages.Input.TheVariants as input
use Rattle.history_text.specs.declared.entries.Cause.TheVariants as cause
use Rattle.node_seat.specs.Seating.{seated_of}
use Rattle.node_seat.specs.Turns.{CanMake, at_turn}
use Rattle.node_seat.proofs.Going.{can_deliver}
use Rattle.node_seat.proofs.stations.Station.deliver.Goals as goal

pub make-requires : goal.make-requires
make-requires g c =
    let old = seated_of c.args.self.now in
    subst (λ stamp. CanMake g.N.Node.state (at_turn old stamp) (cause.Deliver c.args.sent c.args.from) (Some (input.Message c.args.from c.args.message))) (sym c.stamp_after-self.ensures)
    (can_deliver g.N.Node.state old c.requires.goes c.requires.able c.args.from c.args.message c.args.sent c.requires.early c.requires.framable c.requires.heard)
