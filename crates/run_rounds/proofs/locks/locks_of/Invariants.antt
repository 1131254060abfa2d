use Rattle.std.proofs.Common.{◌≡◌, map, take}
use Rattle.run_rounds.specs.Seating.{lock_place, place_in}
use Rattle.run_rounds.proofs.locks.locks_of.Given as goal

abbrev pub invariant-loop-seat : goal.invariant-loop-seat
invariant-loop-seat g l = map (place_in g.N.Node.state) (take l.seat-index l.seats) ≡ map lock_place l.locks.items
