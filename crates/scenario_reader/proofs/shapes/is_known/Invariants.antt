use Rattle.std.proofs.Common.{◌≡◌, map, length}
use Rattle.scenario_reader.specs.Faults.{is_known}
use Rattle.scenario_reader.proofs.shapes.is_known.Given as goal

abbrev pub invariant-loop-names : goal.invariant-loop-names
invariant-loop-names l = is_known (map (λ n. n.now) l.names) l.name ≡ is_known (map (λ n. n.now) l.initial.names) l.name

abbrev pub decreases-loop-names : goal.decreases-loop-names
decreases-loop-names l = length l.names
