use Rattle.std.proofs.Common.{◌≡◌}
use Rattle.std.specs.Prelude.{vec_capacity, vec_len}
use Rattle.scenario_nodes.proofs.ReadAll.{AreReading}
use Rattle.scenario_nodes.proofs.reading.read_resources.Given as goal

-- the first ones were read
abbrev pub invariant-loop-k : goal.invariant-loop-k
invariant-loop-k g l =
    AreReading g.H.D.Disk.state l.scenario (g.H.Shelf.state l.initial.shelf) (g.H.Shelf.state l.shelf) l.k l.read.items
    × (vec_len l.read ≡ l.k) × (vec_capacity l.read ≡ vec_capacity l.fn.read)
