use Rattle.std.proofs.Common.{ap, ◌∙◌}
use Rattle.replay_runner.specs.Letters.{letter_with, receiver_in}
use Rattle.replay_runner.proofs.Made.{made_err, made_ok, place_by}
use Rattle.replay_runner.proofs.members.Member.enter.Goals as goal

pub returns-in-Err-clause-made : goal.returns-in-Err-clause-made
returns-in-Err-clause-made g c = λ event is.
    made_err g.N.Node.state c.args.self.now (record { seat = c.enter.new.self; turned = c.args.self.now.turned })
    c.args.stamp c.args.now c.args.cause event c.in-Err.fault (c.in-Err.ensures.entered event is)

pub returns-clause-made : goal.returns-clause-made
returns-clause-made g c = λ event is.
    made_ok g.N.Node.state c.args.self.now (record { seat = c.enter.new.self; turned = c.turned_by-self.result })
    c.args.stamp c.args.now c.args.cause event c.in-Ok.packet c.letter_of.result (c.in-Ok.ensures.entered event is) c.turned_by-self.ensures c.enter.ensures.same.same_place
    (c.letter_of.ensures ∙ ap (λ p. letter_with p (receiver_in c.trace.result.now) c.in-Ok.packet) (c.place.ensures ∙ ap (place_by g.N.Node.state) c.node.ensures)
    ∙ ap (λ t. letter_with (place_by g.N.Node.state c.enter.new.self.node) (receiver_in t) c.in-Ok.packet) c.trace.ensures)
