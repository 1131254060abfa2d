use Rattle.std.specs.Vec.Iter.{into_iter_items}
use Rattle.run_ends.proofs.Walking.{AreOnTheWay}
use Rattle.run_ends.proofs.settling.join_all.Given as goal

-- the ends before those that are left were gathered
abbrev pub invariant-loop-taker : goal.invariant-loop-taker
invariant-loop-taker g l = AreOnTheWay g.K.RunName.run l.initial.nodes l.nodes l.fn.takers.items (into_iter_items l.taker-iterator)
