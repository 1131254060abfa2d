use Rattle.std.proofs.Common.{◌≡◌, ◌++◌, ◌*◌, string_bytes}
use Rattle.scenario_maker.specs.Draws.{draw}
use Rattle.scenario_maker.specs.Made.{listed, manager_at}
use Rattle.scenario_maker.proofs.making.add_managers.Given as goal

abbrev pub invariant-loop-place : goal.invariant-loop-place
invariant-loop-place l =
    record {
      drawn : l.draws.last ≡ draw l.number (7 * l.place);
      written : string_bytes l.out ≡ string_bytes l.initial.out ++ listed (manager_at l.number) l.place;
    }
