use Rattle.std.proofs.Common.{◌≡◌, slice_get, Some}
use Rattle.run_rounds.specs.Seating.{lock_place, place_in}
use Rattle.run_rounds.proofs.Passes.{AllBefore}
use Rattle.run_rounds.proofs.locks.are_back.Given as goal

abbrev pub invariant-loop-k : goal.invariant-loop-k
invariant-loop-k g l = AllBefore (λ i s. (lock : _) → slice_get l.locks i ≡ Some lock → place_in g.N.Node.state s ≡ lock_place lock) l.seats l.k
