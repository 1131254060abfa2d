use Rattle.std.proofs.Common.{◌≡◌, drop, map}
use Rattle.replay_runner.specs.Members.{earliest_of, turn_of}
use Rattle.replay_runner.proofs.nodes.earlier.Given as goal

-- what the others leave of the first ones is the answer
abbrev pub invariant-loop-member : goal.invariant-loop-member
invariant-loop-member g l =
    earliest_of (l.place, l.turned) (map (turn_of g.N.Node.state) (drop l.member-index l.others)) ≡ earliest_of l.fn.first (map (turn_of g.N.Node.state) l.others)
