use Rattle.std.proofs.Common.{◌∙◌, arith}
use Rattle.replay_runner.proofs.Collected.{all_moved, one_moved}
use Rattle.replay_runner.proofs.collecting.collected.Goals as goal

pub loop-k-preserved : goal.loop-k-preserved
loop-k-preserved c = λ ms stand have.
    one_moved c.args.places.now c.loop-k.traces c.move_newest.new.self c.loop-k.history.items c.move_newest.new.history.items c.loop-k.k c.from_end.result c.loop-k-test.true c.from_end.ensures
    c.in_ok-move_newest.ensures ms stand (c.loop-k.invariant ms stand have)

pub returns : goal.returns
returns c = λ ms stand have.
    let end = c.loop-k-test.false in
    c.of.ensures ∙ c.reverse.ensures.items ∙ all_moved c.args.places.now c.loop-k.traces c.loop-k.history.items c.loop-k.k (omega (arith, end)) ms stand (c.loop-k.invariant ms stand have)
