use Rattle.std.proofs.Common.{◌≡◌, List, [], ◌∷◌, refl}
use Rattle.history_rules.specs.Histories.{Moment}
use Rattle.trace_rules.specs.Stops.{HasBegun}
use Rattle.trace_rules.specs.Worked.{two_stops}
use Rattle.trace_rules.proofs.examples.a_stopped_node_runs.Goals as goal

begun : (m : Moment) (ms : List Moment) → HasBegun two_stops (m ∷ ms)
begun m ms e = absurd (let no : m ∷ ms ≡ [] = e in cc)

pub returns : goal.returns
returns c = (
  (
    (
      (
        tt,
        record { by_stops = (refl, refl); restarted = refl; clock = refl },
      ),
      record { by_stops = begun _ _; restarted = refl; clock = refl },
    ),
    record { by_stops = (begun _ _, refl); restarted = refl; clock = refl },
  ),
  record { by_stops = begun _ _; restarted = refl; clock = refl },
)
