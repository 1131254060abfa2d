use Rattle.node_seat.specs.Ends.{HaveMissed, NoneTook}
use Rattle.node_seat.proofs.taking.take_among.Given as goal

abbrev pub invariant-loop-k : goal.invariant-loop-k
invariant-loop-k g l = NoneTook l.initial.takers l.takers × HaveMissed l.low l.k l.initial.takers l.takers
