-- A seat of a run whose node made its first stop, if it has one.
use Rattle.std.specs.Prelude.{◌≡◌, true, None, Result}
use Rattle.node_steps.specs.Nodes.{NodeState}
use Rattle.node_seat.specs.Seating.{Seated}
use Rattle.node_seat.specs.Turns.{AnswersBegin, MayTurn}
use Rattle.node_seat.specs.declared.faults.RunFault.{RunFault}

-- a seat of a run, which may have turns unless one of its calls answered a fault
pub record HasBegun {N : Type 0} (s : Seated N) : Type 0 where
  pub runs : s.runs ≡ true
  pub turns : s.fault ≡ None → MayTurn s

-- a seat made its first stop, whatever came of that
abbrev pub Begins : {N : Type 0} → (N → NodeState) → (old new : Seated N) → Type 0
Begins state old new = (result : Result (Unit {0}) RunFault) × AnswersBegin state old new result
