-- What is said at each point of a history, and of each history of a chain.
use Rattle.std.specs.Prelude.{List, [], ◌∷◌}
pub use Rattle.durable_records.specs.Members.{In}
use Rattle.history_rules.specs.Nodes.{Past}
use Rattle.history_rules.specs.Histories.{Moment}

-- a property holds before the first entry of a history and after each of them
abbrev pub AtEachPoint : (List Moment → Type 0) → List Moment → Type 0
AtEachPoint P [] = P []
AtEachPoint P (m ∷ ms) = AtEachPoint P ms × P (m ∷ ms)

-- a property holds of each history of a chain, over the records that its disks had
abbrev pub InEachHistory : (Past → List Moment → Type 0) → List (Past × List Moment) → Type 0
InEachHistory P [] = Unit {0}
InEachHistory P ((past, ms) ∷ rest) = InEachHistory P rest × P past ms
