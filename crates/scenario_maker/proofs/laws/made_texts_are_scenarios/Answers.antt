use Rattle.scenario_reader.proofs.Causes.{scenario_has_no_fault}
use Rattle.scenario_reader.specs.Reading.{with_base}
use Rattle.scenario_maker.specs.Made.{made}
use Rattle.scenario_maker.specs.Scenarios.{scenario}
use Rattle.scenario_maker.proofs.Whole.{made_is_scenario}
use Rattle.scenario_maker.proofs.laws.made_texts_are_scenarios.Goals as goal

pub returns : goal.returns
returns c = record {
  scenario = made_is_scenario;
  fault = λ number size least most e.
      let is = made_is_scenario number size least most in scenario_has_no_fault (made number size) (with_base is.0 (scenario number size)) e is.1;
}
