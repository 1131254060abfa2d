use Rattle.std.proofs.Common.{◌∙◌, ap}
use Rattle.history_rules.specs.Nodes.{no_past}
use Rattle.node_steps.specs.Ends.{no_starts}
use Rattle.node_seat.specs.Naming.{run_over}
use Rattle.run_ends.specs.Ending.{ending}
use Rattle.run_ends.proofs.Giving.{has_links}
use Rattle.run_ends.proofs.ended.end_of.Goals as goal

pub invariant_of-ended : goal.invariant_of-ended
invariant_of-ended g c =
    let kept = c.finish-node.ensures in
    let place = c.place-place.ensures ∙ ap (λ n. (g.N.Node.state n).place) c.node.ensures in
    let takers = c.into_vec.ensures ∙ kept.takers in
    let senders = c.into_vec-2.ensures ∙ kept.senders in
    let run = run_over g.K.RunName.run (g.K.RunName.held no_past no_starts) no_starts in
    let links = has_links (g.N.Node.state c.args.seat.node) no_past run c.args.seat ((kept.keeps no_past no_starts).runs c.requires.run) _
    (λ i. ending (place i) (c.fault-fault.ensures i) (kept.trace i) (takers i) (senders i)) in
    record { takes = links.takes; sends = links.sends }
