use Rattle.std.proofs.Common.{◌∙◌, ap, sym}
use Rattle.run_rounds.specs.Seating.{places_of}
use Rattle.run_rounds.proofs.locks.locks_for.Goals as goal

pub returns : goal.returns
returns g c = record {
  of_coordinator = sym c.of.ensures;
  of_resources = ap (places_of g.S.Node.state) (sym c.as_slice.ensures.value) ∙ c.in_ok-resources.ensures;
  of_managers = ap (places_of g.M.Node.state) (sym c.as_slice-2.ensures.value) ∙ c.in_ok-managers.ensures;
}
