-- What a step of a coordinator costs.
pub use Rattle.coordinator_rules.specs.Costs.{held_rows, passed, InputCosts, InputPasses}
