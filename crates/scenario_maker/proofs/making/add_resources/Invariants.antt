use Rattle.std.proofs.Common.{◌≡◌, ◌++◌, string_bytes}
use Rattle.scenario_maker.specs.Made.{listed, resource_at}
use Rattle.scenario_maker.proofs.making.add_resources.Given as goal

abbrev pub invariant-loop-place : goal.invariant-loop-place
invariant-loop-place l = string_bytes l.out ≡ string_bytes l.initial.out ++ listed resource_at l.place
