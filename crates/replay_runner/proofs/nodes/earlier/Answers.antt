use Rattle.std.proofs.Common.{◌+◌, length, refl, ap, sym, ◌∙◌, map}
use Rattle.std.proofs.lemmas.Option.{slice_get_read}
use Rattle.replay_runner.specs.Members.{earliest_of, turn_of}
use Rattle.replay_runner.proofs.Earliest.{all_looked, next_first, stays_first, takes_over}
use Rattle.replay_runner.proofs.Made.{place_by}
use Rattle.replay_runner.proofs.nodes.earlier.Goals as goal
use Rattle.replay_runner.proofs.nodes.earlier.Goals.{then-member-turned, else-member-turned}

pub loop-member-preserved : goal.loop-member-preserved
loop-member-preserved g c =
    let k = c.loop-member.member-index in
    let m = c.member-item.result in
    let others = c.args.others.now in
    let here = slice_get_read others (length others) k m refl c.loop-member-test.true c.member-item.is in
    elim c.if-member-turned.branch [
      | then-member-turned w ↦ next_first g.N.Node.state others (k + 1) c.if-member-turned.place (place_by g.N.Node.state m.seat.node) c.if-member-turned.turned m.turned (earliest_of c.args.first (map (turn_of g.N.Node.state) others))
          (w.place-is ∙ w.place-place.ensures ∙ ap (place_by g.N.Node.state) w.node.ensures) w.turned-is
          (sym (takes_over g.N.Node.state others k m here c.loop-member.place c.loop-member.turned w.if-member-turned.true) ∙ c.loop-member.invariant)
      | else-member-turned w ↦ next_first g.N.Node.state others (k + 1) c.if-member-turned.place c.loop-member.place c.if-member-turned.turned c.loop-member.turned (earliest_of c.args.first (map (turn_of g.N.Node.state) others)) w.place-is w.turned-is
          (sym (stays_first g.N.Node.state others k m here c.loop-member.place c.loop-member.turned w.if-member-turned.false) ∙ c.loop-member.invariant)
    ]

pub returns : goal.returns
returns g c = all_looked g.N.Node.state c.args.others.now c.loop-member.member-index c.loop-member-test.false (c.loop-member.place, c.loop-member.turned) ∙ c.loop-member.invariant
