use Rattle.std.proofs.Common.{sym, ◌∙◌}
use Rattle.node_seat.proofs.Reacted.{loses_crash}
use Rattle.node_seat.proofs.reacting.crash.Goals as goal

pub returns-then-is_down-clause-does : goal.returns-then-is_down-clause-does
returns-then-is_down-clause-does g c = λ now.
    loses_crash (g.N.Node.state c.args.node.now) (g.met.N.Node.lawful c.args.node.now) now c.still.result (sym c.is_down.ensures ∙ c.if-is_down.true) c.still.ensures.value
