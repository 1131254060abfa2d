-- A seat that made its first stop stands where it stood.
use Rattle.std.proofs.Common.{◌≡◌, List, [], ◌∷◌, Option, Some, None, Result, Ok, Err, refl, ap, sym, ◌∙◌}
use Rattle.seata_types.specs.declared.ids.Place.{Place}
use Rattle.node_steps.specs.Nodes.{NodeState}
use Rattle.trace_rules.specs.Stops.{NodeStop}
use Rattle.node_seat.specs.Seating.{Seated}
use Rattle.node_seat.specs.Turns.{IsBegun, noted}
use Rattle.node_seat.specs.declared.faults.RunFault.{RunFault}
use Rattle.run_rounds.specs.Beginning.{Begins}

module _ {N : Type 0} (state : N → NodeState) where
  noted_place : (result : Result (Unit {0}) RunFault) (s : Seated N) → (state (noted result s).node).place ≡ (state s.node).place
  noted_place (Ok done) s = refl
  noted_place (Err missed) s = refl

  made_place : (stops : List NodeStop) (old made : Seated N) (result : Result (Unit {0}) RunFault) → IsBegun state stops old made result → (state made.node).place ≡ (state old.node).place
  made_place [] old made result (is, same) = ap (λ (s : Seated N). (state s.node).place) same
  made_place (stop ∷ stops) old made result m = m.entered.same.same_place

  pub begun_place : (old new : Seated N) → Begins state old new → (state new.node).place ≡ (state old.node).place
  begun_place old new (result, (made, begun, is)) =
      ap (λ (s : Seated N). (state s.node).place) is ∙ noted_place result made ∙ made_place old.plan.stops old made result begun
