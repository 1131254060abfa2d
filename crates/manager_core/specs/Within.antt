-- Which settings a manager may have: those with which all that it sends can be framed.
use Rattle.std.specs.Prelude.{ℕ, ◌≤◌, length, All}
use Rattle.seata_types.specs.declared.limits.TheConstants.{CALLS, MANAGERS, RESOURCES, TICKS}
use Rattle.seata_types.specs.declared.statements.Work.{Work}
use Rattle.frame_codec.specs.Limits.{IsCounted, IsWorkWithin}
use Rattle.frame_codec.specs.Works.{FitsWork}
use Rattle.history_rules.specs.ManagerRules.{Settings}
pub use Rattle.manager_rules.specs.Within.{settings_with}

-- a call of a resource, with work that can be framed
pub record IsCallWithin (call : ℕ × Work) : Type 0 where
  pub resource : IsCounted RESOURCES call.0
  pub layout : FitsWork call.1
  pub limits : IsWorkWithin call.1

-- numbers and calls within the limits
pub record IsWithin (m : Settings) : Type 0 where
  pub numbered : IsCounted MANAGERS m.number
  pub timed : IsCounted TICKS m.timeout
  pub few : length m.calls ≤ CALLS
  pub calls : All IsCallWithin m.calls
