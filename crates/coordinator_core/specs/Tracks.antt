-- Own entries of a coordinator, and what it knows after them.
pub use Rattle.coordinator_rules.specs.Tracks.{Course, Follows, Tracks, records, with_own, rule_answer, due_on, rests_on}
