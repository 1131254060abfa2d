use Rattle.std.proofs.Common.{◌≡◌, drop}
use Rattle.run_rounds.specs.Ending.{first_fault}
use Rattle.run_rounds.proofs.ends.first_fault.Given as goal

abbrev pub invariant-loop-seat : goal.invariant-loop-seat
invariant-loop-seat g l = first_fault (drop l.seat-index l.seats) ≡ first_fault l.seats
