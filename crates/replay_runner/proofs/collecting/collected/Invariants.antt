use Rattle.std.proofs.Common.{◌≡◌, List, drop, map, take}
use Rattle.history_rules.specs.Histories.{Moment}
use Rattle.history_text.specs.History.{entry_of}
use Rattle.replay_runner.specs.Collecting.{AreTraces, trace_at}
use Rattle.replay_runner.specs.Traces.{places_of}
use Rattle.replay_runner.proofs.collecting.collected.Given as goal

-- the newest k entries were taken out
abbrev pub invariant-loop-k : goal.invariant-loop-k
invariant-loop-k l =
    (ms : List Moment) → l.places ≡ places_of ms → AreTraces (trace_at l.initial.traces) ms → AreTraces (trace_at l.traces) (drop l.k ms) × (l.history.items ≡ map entry_of (take l.k ms))
